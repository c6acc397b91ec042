use Rattle.std.proofs.Common.{All}
use Rattle.misere_theory.specs.Certificates.{claim_of}
use Rattle.isomorphisms.specs.Images.{AreForced, IsForced}
use Rattle.isomorphisms.proofs.forcing.spread_all.Given as goal

abbrev pub invariant-loop-i : goal.invariant-loop-i
invariant-loop-i g l = record {
  map : AreForced (claim_of l.a) (claim_of l.b) l.images l.map.items;
  found : All (IsForced (claim_of l.a) (claim_of l.b) l.images) l.found.items;
}
