use Rattle.std.proofs.Common.{ℕ, ◌<◌, ◌≤◌}
use Rattle.std.specs.Prelude.{slice_index}
use Rattle.presented_claims.specs.Folds.{at_letter}
use Rattle.class_tables.proofs.thresholds.is_above.Given as goal

abbrev pub invariant-loop-i : goal.invariant-loop-i
invariant-loop-i l = (k : ℕ) → k < l.i → slice_index l.rule.0 k ≤ (at_letter l.folds k).0
