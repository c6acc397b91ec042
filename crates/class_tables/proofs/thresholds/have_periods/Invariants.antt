use Rattle.std.proofs.Common.{ℕ, ◌<◌, ◌≤◌}
use Rattle.presented_claims.specs.Folds.{at_letter}
use Rattle.class_tables.proofs.thresholds.have_periods.Given as goal

abbrev pub invariant-loop-i : goal.invariant-loop-i
invariant-loop-i l = (k : ℕ) → k < l.i → 1 ≤ (at_letter l.folds k).1
