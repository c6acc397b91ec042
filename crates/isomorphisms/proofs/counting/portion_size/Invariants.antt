use Rattle.std.proofs.Common.{◌≡◌, ◌≤◌}
use Rattle.misere_theory.specs.Certificates.{claim_of}
use Rattle.isomorphisms.specs.Profiles.{count_below}
use Rattle.isomorphisms.proofs.counting.portion_size.Given as goal

abbrev pub invariant-loop-x : goal.invariant-loop-x
invariant-loop-x g l = record {
  value : l.count ≡ count_below (claim_of l.quotient).portion l.x;
  small : l.count ≤ l.x;
}
