use Rattle.std.proofs.Common.{All}
use Rattle.misere_theory.specs.Certificates.{claim_of}
use Rattle.isomorphisms.specs.Images.{AreForced, IsForced}
use Rattle.isomorphisms.proofs.forcing.forced.Given as goal

abbrev pub invariant-loop-at : goal.invariant-loop-at
invariant-loop-at g l = record {
  map : AreForced (claim_of l.a) (claim_of l.b) l.images l.map.items;
  found : All (IsForced (claim_of l.a) (claim_of l.b) l.images) l.found.items;
}
