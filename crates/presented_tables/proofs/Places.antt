-- The place of a word in a list.
use Rattle.std.proofs.Common.{◌≡◌, ℕ, zero, suc, ◌<◌, false, List, [], ◌∷◌, length, refl, sym, inl, inr, arith}
use Rattle.std.specs.Prelude.{slice_index_or, nat_eq}
use Rattle.std.specs.Cmp.Lexicographic.{pointwise, same_text, other_text}
use Rattle.std.proofs.lemmas.Bool.{cases_Bool}
use Rattle.presented_tables.specs.Elements.{place}

-- that the word is in the list
abbrev pub IsThere : List (List ℕ) → List ℕ → Type 0
IsThere vs w = (x : ℕ) × (x < length vs) × (slice_index_or vs x [] ≡ w)

behind : (v : List ℕ) (vs : List (List ℕ)) (w : List ℕ) → pointwise nat_eq v w ≡ false
    → IsThere (v ∷ vs) w → IsThere vs w
behind v vs w fails (zero, lt, is) = absurd (other_text v w (sym fails) is)
behind v vs w fails (suc x, lt, is) = (x, omega (arith, lt), is)

pub place-in : (vs : List (List ℕ)) (w : List ℕ) → IsThere vs w → place vs w < length vs
place-in [] w (x, lt, is) = absurd (omega (arith, lt))
place-in (v ∷ vs) w there = elim (cases_Bool (pointwise nat_eq v w)) [
  | inl holds ↦ rw holds (omega arith)
  | inr fails ↦ rw fails (let h = place-in vs w (behind v vs w fails there) in omega (arith, h))
]

pub place-is : (vs : List (List ℕ)) (w : List ℕ) → IsThere vs w → slice_index_or vs (place vs w) [] ≡ w
place-is [] w (x, lt, is) = absurd (omega (arith, lt))
place-is (v ∷ vs) w there = elim (cases_Bool (pointwise nat_eq v w)) [
  | inl holds ↦ rw holds (same_text v w (sym holds))
  | inr fails ↦ rw fails (place-is vs w (behind v vs w fails there))
]

pub place-first : (vs : List (List ℕ)) (w : List ℕ) → 0 < length vs → slice_index_or vs 0 [] ≡ w
    → place vs w ≡ 0
place-first [] w lt is = absurd (omega (arith, lt))
place-first (v ∷ vs) w lt is = elim (cases_Bool (pointwise nat_eq v w)) [
  | inl holds ↦ rw holds refl
  | inr fails ↦ absurd (other_text v w (sym fails) is)
]
