use Rattle.std.proofs.Common.{ℕ, ◌<◌, ◌≤◌, List, Bool}
use Rattle.kept_positions.specs.Numbers.{IsFamily}
use Rattle.kept_positions.proofs.families.are_families.Given as goal

abbrev pub invariant-loop-i : goal.invariant-loop-i
invariant-loop-i g l = (j : ℕ) → 1 ≤ j → j < l.i → (shown : List Bool) × IsFamily l.t l.u l.k j shown
