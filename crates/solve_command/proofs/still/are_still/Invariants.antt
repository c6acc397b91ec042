use Rattle.std.proofs.Common.{◌≤◌, ◌<◌, ℕ}
use Rattle.solve_command.specs.Series.{HasOption}
use Rattle.solve_command.proofs.still.are_still.Given as goal

abbrev pub invariant-loop-heap : goal.invariant-loop-heap
invariant-loop-heap l = (h : ℕ) → 1 ≤ h → h < l.heap → HasOption l.code h → ⊥
