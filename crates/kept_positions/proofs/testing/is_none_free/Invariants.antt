use Rattle.std.proofs.Common.{ℕ, ◌<◌}
use Rattle.kept_positions.specs.Numbers.{IsFree}
use Rattle.kept_positions.proofs.testing.is_none_free.Given as goal

abbrev pub invariant-loop-g : goal.invariant-loop-g
invariant-loop-g g l = (m : ℕ) → m < l.g → IsFree l.t l.k 0 m → ⊥
