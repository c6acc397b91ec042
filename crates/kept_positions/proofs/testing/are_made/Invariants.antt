use Rattle.std.proofs.Common.{ℕ, ◌<◌, ◌≤◌}
use Rattle.kept_positions.specs.Numbers.{IsMadeOf}
use Rattle.kept_positions.proofs.testing.are_made.Given as goal

abbrev pub invariant-loop-j : goal.invariant-loop-j
invariant-loop-j g l = (m : ℕ) → 1 ≤ m → m < l.j → (i : ℕ) × (g : ℕ) × IsMadeOf l.t l.k m i g
