use Rattle.std.proofs.Common.{ℕ, ◌<◌}
use Rattle.class_tables.proofs.Settled.{IsPairSettled, IsClassSettled}
use Rattle.class_tables.proofs.separating.are_separated.Given as goal

abbrev pub invariant-loop-x : goal.invariant-loop-x
invariant-loop-x g l = record {
  pairs : (k : ℕ) → k < l.x → (y : ℕ) → y < k → IsPairSettled l.p l.l l.t l.bits l.weights k y;
  classes : (k : ℕ) → k < l.x → IsClassSettled l.p l.l l.weights k;
}
