use Rattle.std.proofs.Common.{◌≢◌, ◌≤◌}
use Rattle.misere_theory.specs.Certificates.{times_of}
use Rattle.nim_tails.specs.Tails.{Counts}
use Rattle.nim_tails.proofs.kernel.outside.Given as goal

abbrev pub invariant-loop-x : goal.invariant-loop-x
invariant-loop-x l = record {
  within : l.count ≤ l.x;
  counts : Counts (λ x. times_of l.certified l.one x ≢ x) l.x l.count;
}
