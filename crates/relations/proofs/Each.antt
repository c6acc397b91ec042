-- What holds of the elements before number i, and of that one, holds of those before number i + 1.
use Rattle.std.proofs.Common.{◌<◌, ◌+◌, ℕ, List, inl, inr, arith}
use Rattle.std.specs.Prelude.{length, slice_index_or}
use Rattle.std.proofs.lemmas.Bool.{cases_eq}
use Rattle.std.proofs.lemmas.List.{get_or_default}

pub each-next : {X : Type 0} (P : X → Type 0) (xs : List X) (i : ℕ) (none : X) → i < length xs
    → ((k : ℕ) (d : X) → k < i → P (slice_index_or xs k d))
    → P (slice_index_or xs i none)
    → (k : ℕ) (d : X) → k < i + 1 → P (slice_index_or xs k d)
each-next P xs i none within before here k d lt = elim (cases_eq k i) [
  | inl is ↦ rw (is, ← get_or_default xs i none d within) here
  | inr other ↦ before k d (omega (arith, other))
]
