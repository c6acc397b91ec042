-- A code's digits in an array, with zeros behind them.
use Rattle.std.specs.Prelude.{◌≡◌, ℕ, zero, suc, ◌+◌, ◌-◌, ◌≤◌, List, [], ◌∷◌, ◌++◌, length, slice_index, take, drop, refl}
use Rattle.std.proofs.Common.{sym, ap, ap₂, ◌∙◌, arith}
use Rattle.std.proofs.lemmas.List.{take-append-drop, length-drop, length-take-le, get_or-drop}
use Rattle.misere_theory.specs.Games.{IsCode}
use Rattle.octal_code.specs.declared.code.Code.TheInside.{Inside}

-- n zeros
abbrev pub zeros : ℕ → List ℕ
zeros zero = []
zeros (suc n) = 0 ∷ zeros n

-- the digits, and zeros up to 17
abbrev pub padded : List ℕ → List ℕ
padded xs = xs ++ zeros (17 - length xs)

-- the first `count` of 17 places hold a code, and the others zeros
pub record HoldsCode (digits : List ℕ) (count : ℕ) : Type 0 where
  pub room : length digits ≡ 17
  pub short : count ≤ 17
  pub code : IsCode (take count digits)
  pub past : (j : ℕ) → count ≤ j → slice_index digits j ≡ 0

all_zeros : (xs : List ℕ) → ((j : ℕ) → slice_index xs j ≡ 0) → xs ≡ zeros (length xs)
all_zeros [] h = refl
all_zeros (x ∷ xs) h = ap₂ (λ y ys. y ∷ ys) (h 0) (all_zeros xs (λ j. h (suc j)))

abbrev pub inside : List ℕ → ℕ → Inside
inside ds n = record { digits = ds; count = n }

pub padded-take : (ds : List ℕ) (n : ℕ) → HoldsCode ds n
    → inside (padded (take n ds)) (length (take n ds)) ≡ inside ds n
padded-take ds n h =
    let l : length (take n ds) ≡ n =
    length-take-le n ds (let r = h.room in let s = h.short in omega arith) in
    let r : drop n ds ≡ zeros (17 - n) =
    all_zeros (drop n ds) (λ j. get_or-drop n ds j 0 ∙ h.past (n + j) (omega arith))
    ∙ ap zeros (length-drop n ds ∙ ap (λ m. m - n) h.room) in
    ap₂ inside (ap (λ m. take n ds ++ zeros (17 - m)) l ∙ ap (λ v. take n ds ++ v) (sym r)
    ∙ take-append-drop n ds) l
