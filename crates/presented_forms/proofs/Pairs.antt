-- What holds of each two neighbours up to element number i - 1, and of that one and number i, holds up to number i.
use Rattle.std.proofs.Common.{◌<◌, ◌+◌, ◌-◌, ℕ, List, length, inl, inr, arith}
use Rattle.std.specs.Prelude.{slice_index_or}
use Rattle.std.proofs.lemmas.Bool.{cases_eq}
use Rattle.std.proofs.lemmas.List.{get_or_default}

pub pairs_next : {X : Type 0} (R : X → X → Type 0) (xs : List X) (i : ℕ) (one other : X) → i < length xs
    → ((k : ℕ) (d : X) → 0 < k → k < i → R (slice_index_or xs (k - 1) d) (slice_index_or xs k d))
    → R (slice_index_or xs (i - 1) one) (slice_index_or xs i other)
    → (k : ℕ) (d : X) → 0 < k → k < i + 1 → R (slice_index_or xs (k - 1) d) (slice_index_or xs k d)
pairs_next R xs i one other within before here k d some lt = elim (cases_eq k i) [
  | inl is ↦
      rw (
        is,
        ← get_or_default xs (i - 1) one d (omega (arith, within)),
        ← get_or_default xs i other d within,
      ) here
  | inr differ ↦ before k d some (omega (arith, lt, differ))
]
