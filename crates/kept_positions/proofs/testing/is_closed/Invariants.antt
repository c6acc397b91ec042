use Rattle.std.proofs.Common.{ℕ, ◌<◌, ◌⊎◌}
use Rattle.kept_positions.specs.Numbers.{IsFree, IsClosedWith}
use Rattle.kept_positions.proofs.testing.is_closed.Given as goal

abbrev pub invariant-loop-g : goal.invariant-loop-g
invariant-loop-g g l = (m : ℕ) → m < l.g → IsFree l.t l.k l.i m ⊎ IsClosedWith l.t l.k l.i m
