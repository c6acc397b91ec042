use Rattle.std.proofs.Common.{◌≡◌, ℕ, ◌+◌, ◌*◌, ◌<◌, ◌≤◌, length}
use Rattle.std.specs.Prelude.{slice_index}
use Rattle.presentations.specs.declared.TheConstants.{LETTERS}
use Rattle.presented_claims.specs.Folds.{at_letter}
use Rattle.class_tables.proofs.steps.periods_between.Given as goal

abbrev pub invariant-loop-i : goal.invariant-loop-i
invariant-loop-i l = record {
  long : length l.more ≡ LETTERS;
  sum : (k : ℕ) → k < l.i → slice_index l.u k ≡ slice_index l.s k + slice_index l.more k;
  large : (k : ℕ) → k < l.i → 0 < slice_index l.more k
      → (k < length l.tops) × ((at_letter l.tops k).0 ≤ slice_index l.s k);
  whole : (k : ℕ) → k < l.i → k < length l.tops → (n : ℕ) × (slice_index l.more k ≡ (at_letter l.tops k).1 * n);
}
