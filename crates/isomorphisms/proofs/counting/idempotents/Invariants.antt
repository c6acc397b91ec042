use Rattle.std.proofs.Common.{◌≡◌, ◌≤◌}
use Rattle.std.specs.Prelude.{◌==◌}
use Rattle.misere_theory.specs.Certificates.{times_of}
use Rattle.isomorphisms.specs.Profiles.{count_below}
use Rattle.isomorphisms.proofs.counting.idempotents.Given as goal

abbrev pub invariant-loop-x : goal.invariant-loop-x
invariant-loop-x g l = record {
  value : l.count ≡ count_below (λ x. times_of l.quotient x x == x) l.x;
  small : l.count ≤ l.x;
}
