use Rattle.std.proofs.Common.{ℕ, ◌<◌}
use Rattle.class_tables.proofs.Settled.{IsPairSettled}
use Rattle.class_tables.proofs.separating.are_settled_with.Given as goal

abbrev pub invariant-loop-y : goal.invariant-loop-y
invariant-loop-y g l = (k : ℕ) → k < l.y → IsPairSettled l.p l.l l.t l.bits l.weights l.x k
