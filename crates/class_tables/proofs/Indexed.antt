-- Lists by their places.
use Rattle.std.proofs.Common.{◌≡◌, ℕ, zero, suc, ◌+◌, ◌*◌, ◌/◌, ◌%◌, ◌<◌, ◌≤◌, List, [], ◌∷◌, length, refl, sym, ap, ◌∙◌, subst, arith}
use Rattle.std.specs.Prelude.{slice_index, slice_index_or}
use Rattle.std.proofs.Math.Nat.{mod-add-div}
use Rattle.presented_claims.specs.Folds.{at_letter}
use Rattle.presented_claims.specs.Led.{weight_of}

pub at-index : (cs : List (ℕ × ℕ)) (i : ℕ) (d : ℕ × ℕ) → i < length cs → at_letter cs i ≡ slice_index_or cs i d
at-index [] i d lt = absurd (omega (arith, lt))
at-index (c ∷ cs) zero d lt = refl
at-index (c ∷ cs) (suc i) d lt = at-index cs i d (omega (arith, lt))

-- what stands from number i on
abbrev pub from : ℕ → List ℕ → List ℕ
from zero xs = xs
from (suc i) [] = []
from (suc i) (x ∷ xs) = from i xs

zero-times : (x : ℕ) → 0 ≡ 0 * x + 0
zero-times x = omega arith

pub weight-step : (i : ℕ) (ws word : List ℕ) → i < length word
    → weight_of (from i ws) (from i word)
    ≡ slice_index ws i * slice_index word i + weight_of (from (suc i) ws) (from (suc i) word)
weight-step i ws [] lw = absurd (omega (arith, lw))
weight-step zero [] (e ∷ word) lw = zero-times e
weight-step (suc i) [] (e ∷ word) lw = zero-times (slice_index word i)
weight-step zero (w ∷ ws) (e ∷ word) lw = refl
weight-step (suc i) (w ∷ ws) (e ∷ word) lw = weight-step i ws word (omega (arith, lw))

-- the same, with one more said as a sum
pub weight-next : (i : ℕ) (ws word : List ℕ) → i < length word
    → weight_of (from i ws) (from i word)
    ≡ slice_index ws i * slice_index word i + weight_of (from (i + 1) ws) (from (i + 1) word)
weight-next i ws word lw =
    let next : suc i ≡ i + 1 = omega arith in
    subst (λ n. weight_of (from i ws) (from i word)
    ≡ slice_index ws i * slice_index word i + weight_of (from n ws) (from n word)) next (weight-step i ws word lw)

nothing-from : (i : ℕ) (word : List ℕ) → length word ≤ i → from i word ≡ []
nothing-from zero [] le = refl
nothing-from zero (e ∷ word) le = absurd (omega (arith, le))
nothing-from (suc i) [] le = refl
nothing-from (suc i) (e ∷ word) le = nothing-from i word (omega (arith, le))

weight-none : (ws : List ℕ) → weight_of ws [] ≡ 0
weight-none [] = refl
weight-none (w ∷ ws) = refl

pub weight-past : (i : ℕ) (ws word : List ℕ) → length word ≤ i → weight_of (from i ws) (from i word) ≡ 0
weight-past i ws word le = ap (weight_of (from i ws)) (nothing-from i word le) ∙ weight-none (from i ws)

-- a number without a remainder is a multiple
pub whole-quotient : (a b : ℕ) → a % b ≡ 0 → (k : ℕ) × (a ≡ b * k)
whole-quotient a b none = (a / b, (let h = mod-add-div a b in omega (arith, h, none)))
