-- The first place of a word in a list.
use Rattle.std.proofs.Common.{◌≡◌, ◌≢◌, ℕ, zero, suc, ◌<◌, List, [], ◌∷◌, length, refl, sym, ap, inl, inr, arith}
use Rattle.std.specs.Prelude.{slice_index_or, nat_eq, true, false}
use Rattle.std.specs.Cmp.Lexicographic.{pointwise, same_text, other_text}
use Rattle.std.proofs.lemmas.Bool.{cases_Bool}
use Rattle.presented_tables.specs.Elements.{place}

pub place-at : (vs : List (List ℕ)) (w : List ℕ) (k : ℕ) → k < length vs
    → ((j : ℕ) → j < k → slice_index_or vs j [] ≢ w) → slice_index_or vs k [] ≡ w → place vs w ≡ k
place-at [] w k lt before is = absurd (omega (arith, lt))
place-at (v ∷ vs) w zero lt before is = elim (cases_Bool (pointwise nat_eq v w)) [
  | inl holds ↦ rw holds refl
  | inr fails ↦ absurd (other_text v w (sym fails) is)
]
place-at (v ∷ vs) w (suc k) lt before is = elim (cases_Bool (pointwise nat_eq v w)) [
  | inl holds ↦ absurd (before 0 (omega arith) (same_text v w (sym holds)))
  | inr fails ↦ rw fails
      (ap suc (place-at vs w k (omega (arith, lt)) (λ j h. before (suc j) (omega (arith, h))) is))
]
