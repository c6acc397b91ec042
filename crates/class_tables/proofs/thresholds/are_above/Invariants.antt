use Rattle.std.proofs.Common.{ℕ, ◌<◌, ◌≤◌, List, length}
use Rattle.std.specs.Prelude.{slice_index, slice_index_or}
use Rattle.presented_claims.specs.Folds.{at_letter}
use Rattle.class_tables.proofs.thresholds.are_above.Given as goal

abbrev pub invariant-loop-k : goal.invariant-loop-k
invariant-loop-k l = (j : ℕ) (d : List ℕ × List ℕ) → j < l.k → (i : ℕ) → i < length l.folds
    → slice_index (slice_index_or l.rules j d).0 i ≤ (at_letter l.folds i).0
