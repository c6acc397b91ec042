use Rattle.std.proofs.Common.{ℕ, ◌<◌, ◌⊎◌}
use Rattle.kept_positions.specs.Numbers.{IsFree, IsClosedWith}
use Rattle.kept_positions.proofs.testing.are_closed.Given as goal

abbrev pub invariant-loop-i : goal.invariant-loop-i
invariant-loop-i g l = (m s : ℕ) → m < l.i → s < l.t.heaps → IsFree l.t l.k m s ⊎ IsClosedWith l.t l.k m s
