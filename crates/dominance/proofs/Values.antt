-- Triples of words, and that the relations keep them.
use Rattle.std.proofs.Common.{◌≡◌, ℕ, zero, suc, ◌+◌, ◌-◌, ◌*◌, ◌≤◌, false, List, [], ◌∷◌, ◌++◌, refl, sym, ◌∙◌, ap, inl, inr, arith}
use Rattle.dominance.specs.Triples.{Triple, times, IsElement}
use Rattle.dominance.proofs.Triples.{same_triple, identity, commutes, associates, element_times}
use Rattle.dominance.specs.Words.{Letter, triple, value, powers, IsSame}
use Rattle.dominance.specs.Words.Letter.{A, B, H}
use Rattle.dominance.specs.Words.IsSame.{Same, Turned, Then, Under, Flip, Square, Rulers, Worn}

-- of so much weight alone
abbrev pub heavy : ℕ → Triple
heavy n = record { odd = false; weight = n; lead = 0 }

pub powers_value : (n : ℕ) (w : List Letter) → value (powers n ++ w) ≡ times (heavy n) (value w)
powers_value zero w = sym (identity (value w))
powers_value (suc n) w =
    ap (times (triple B)) (powers_value n w)
    ∙ sym (associates (triple B) (heavy n) (value w))
    ∙ ap (λ u. times u (value w)) (one_more n)
  where
    one_more : (n : ℕ) → times (triple B) (heavy n) ≡ heavy (suc n)
    one_more n = same_triple (times (triple B) (heavy n)) (heavy (suc n)) refl (omega arith) (omega arith)

-- a ruler with weights: they wear its lead down
pub worn_value : (i n : ℕ) → times (triple (H i)) (heavy n)
    ≡ record { odd = false; weight = i + 2 + n; lead = (i + 1) - n }
worn_value i n =
    same_triple (times (triple (H i)) (heavy n))
    (record { odd = false; weight = i + 2 + n; lead = (i + 1) - n }) refl refl (omega arith)

rulers_value : (i j : ℕ) → j ≤ i
    → times (triple (H i)) (triple (H j)) ≡ times (triple (H i)) (heavy (j + 2))
rulers_value i j l =
    same_triple (times (triple (H i)) (triple (H j))) (times (triple (H i)) (heavy (j + 2))) refl refl
    (omega arith)

all_worn : (i : ℕ) → times (triple (H i)) (heavy (i + 1)) ≡ heavy (2 * i + 3)
all_worn i =
    same_triple (times (triple (H i)) (heavy (i + 1))) (heavy (2 * i + 3)) refl (omega arith) (omega arith)

pub kept : {v w : List Letter} → IsSame v w → value v ≡ value w
kept Same = refl
kept (Turned s) = sym (kept s)
kept (Then s t) = kept s ∙ kept t
kept (Under {x = x} s) = ap (times (triple x)) (kept s)
kept (Flip {x = x} {y = y} {w = w}) =
    sym (associates (triple x) (triple y) (value w))
    ∙ ap (λ u. times u (value w)) (commutes (triple x) (triple y))
    ∙ associates (triple y) (triple x) (value w)
kept (Square {w = w}) =
    sym (associates (triple A) (triple A) (value w)) ∙ identity (value w)
kept (Rulers {i = i} {j = j} {w = w} l) =
    sym (associates (triple (H i)) (triple (H j)) (value w))
    ∙ ap (λ u. times u (value w)) (rulers_value i j l)
    ∙ associates (triple (H i)) (heavy (j + 2)) (value w)
    ∙ ap (times (triple (H i))) (sym (powers_value (j + 2) w))
kept (Worn {i = i} w) =
    ap (times (triple (H i))) (powers_value (i + 1) w)
    ∙ sym (associates (triple (H i)) (heavy (i + 1)) (value w))
    ∙ ap (λ u. times u (value w)) (all_worn i)
    ∙ sym (powers_value (2 * i + 3) w)

letter_element : (x : Letter) → IsElement (triple x)
letter_element A = inl refl
letter_element B = inl refl
letter_element (H i) = inr (omega arith, omega arith)

pub word_element : (w : List Letter) → IsElement (value w)
word_element [] = inl refl
word_element (x ∷ w) = element_times (triple x) (value w) (letter_element x) (word_element w)
