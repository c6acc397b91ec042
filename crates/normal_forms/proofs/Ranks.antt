-- The rank of a word: a number that falls where a word comes before another one. So reducing ends.
use Rattle.std.proofs.Common.{◌≡◌, ℕ, zero, suc, ◌+◌, ◌-◌, ◌*◌, ◌^◌, ◌<◌, ◌≤◌, List, refl, inl, inr, arith}
use Rattle.std.specs.Prelude.{slice_index}
use Rattle.std.proofs.Math.Nat.{pow-zero, pow-suc, pow-le-pow_left}
use Rattle.std.proofs.lemmas.Bool.{cases_eq}
use Rattle.std.proofs.lemmas.Nat.{row_fits}
use Rattle.presentations.specs.Vectors.{plus}
use Rattle.relations.specs.Bases.{Precedes, letter_count}
use Rattle.normal_forms.proofs.Words.{plus-at}

pub count-plus : (n : ℕ) (u w : List ℕ)
    → letter_count n (plus u w) ≡ letter_count n u + letter_count n w
count-plus zero u w = refl
count-plus (suc n) u w = omega (arith, count-plus n u w, plus-at u w n)

pub at-most-count : (n : ℕ) (w : List ℕ) (i : ℕ) → i < n → slice_index w i ≤ letter_count n w
at-most-count zero w i lt = absurd (omega (arith, lt))
at-most-count (suc n) w i lt = elim (cases_eq i n) [
  | inl same ↦ rw same (omega arith)
  | inr other ↦ let h = at-most-count n w i (omega (arith, lt, other)) in omega (arith, h)
]

-- Where a word is among those of so many letters: the exponents' distances from d as digits, the first one
-- the highest.
abbrev place : ℕ → ℕ → List ℕ → ℕ
place d zero w = 0
place d (suc n) w = place d n w * suc d + (d - slice_index w n)

place-below : (d n : ℕ) (w : List ℕ) → place d n w < suc d ^ n
place-below d zero w = rw (pow-zero (suc d)) (omega arith)
place-below d (suc n) w =
    let below = place-below d n w in
    rw (pow-suc (suc d) n)
    (let fits : place d n w * suc d + suc d ≤ suc d ^ n * suc d =
    row_fits (place d n w) (suc d) (suc d ^ n) (suc d) below (omega arith) in
    omega (arith, fits))

place-same : (d n : ℕ) (u w : List ℕ)
    → ((k : ℕ) → k < n → slice_index u k ≡ slice_index w k) → place d n u ≡ place d n w
place-same d zero u w same = refl
place-same d (suc n) u w same =
    rw (same n (omega arith), place-same d n u w (λ k lt. same k (omega (arith, lt)))) refl

place-less : (d n : ℕ) (u w : List ℕ) (i : ℕ) → i < n → slice_index w i < slice_index u i
    → slice_index u i ≤ d
    → ((k : ℕ) → k < i → slice_index u k ≡ slice_index w k)
    → place d n u < place d n w
place-less d zero u w i lt less most same = absurd (omega (arith, lt))
place-less d (suc n) u w i lt less most same = elim (cases_eq i n) [
  | inl here ↦
      rw (place-same d n u w (λ k k_in. same k (omega (arith, k_in, here))))
      (let less_ : slice_index w n < slice_index u n = rw (← here) less in
      let most_ : slice_index u n ≤ d = rw (← here) most in
      omega (arith, less_, most_))
  | inr other ↦
      let before = place-less d n u w i (omega (arith, lt, other)) less most same in
      let fits : place d n u * suc d + suc d ≤ place d n w * suc d =
      row_fits (place d n u) (suc d) (place d n w) (suc d) before (omega arith) in
      omega (arith, fits)
]

-- words with fewer letters first, and then by their places
abbrev pub rank : ℕ → List ℕ → ℕ
rank n w =
    letter_count n w * suc (letter_count n w) ^ n + place (letter_count n w) n w

fewer : (n c d : ℕ) (u w : List ℕ) → c < d
    → c * suc c ^ n + place c n u < d * suc d ^ n + place d n w
fewer n c d u w lt =
    let below = place-below c n u in
    let power : suc c ^ n ≤ suc d ^ n = pow-le-pow_left (omega (arith, lt)) n in
    let fits : c * suc c ^ n + suc c ^ n ≤ d * suc d ^ n =
    row_fits c (suc c ^ n) d (suc d ^ n) lt power in
    omega (arith, fits, below)

pub rank-less : (n : ℕ) (u w : List ℕ) → Precedes n u w → rank n u < rank n w
rank-less n u w (inl less) = fewer n (letter_count n u) (letter_count n w) u w less
rank-less n u w (inr (e, (i, i_in, less, same))) =
    rw (← e)
    (let after : place (letter_count n u) n u < place (letter_count n u) n w =
    place-less (letter_count n u) n u w i i_in less (at-most-count n u i i_in) same in
    omega (arith, after))

-- the order is kept beside a word
pub precedes-plus : (n : ℕ) (u w z : List ℕ) → Precedes n u w → Precedes n (plus u z) (plus w z)
precedes-plus n u w z (inl less) = inl (omega (arith, less, count-plus n u z, count-plus n w z))
precedes-plus n u w z (inr (e, (i, i_in, less, same))) =
    inr (
      omega (arith, e, count-plus n u z, count-plus n w z),
      (
        i,
        i_in,
        omega (arith, less, plus-at u z i, plus-at w z i),
        λ k lt. let at = same k lt in omega (arith, at, plus-at u z k, plus-at w z k),
      ),
    )
