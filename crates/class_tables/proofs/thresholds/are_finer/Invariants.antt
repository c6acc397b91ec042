use Rattle.std.proofs.Common.{◌≡◌, ℕ, ◌*◌, ◌<◌, ◌≤◌}
use Rattle.presented_claims.specs.Folds.{at_letter}
use Rattle.class_tables.proofs.thresholds.are_finer.Given as goal

abbrev pub invariant-loop-i : goal.invariant-loop-i
invariant-loop-i l = (j : ℕ) → j < l.i → ((at_letter l.cycles j).0 ≤ (at_letter l.folds j).0)
    × ((k : ℕ) × ((at_letter l.folds j).1 ≡ (at_letter l.cycles j).1 * k))
