-- A step by a rule leaves no more letters, so no exponent gets too large.
use Rattle.std.proofs.Common.{◌≡◌, ℕ, zero, suc, ◌+◌, ◌-◌, ◌<◌, ◌≤◌, List, length, refl, ◌∙◌, inl, inr, arith, get_or-set_other, get_or-set_same}
use Rattle.std.specs.Prelude.{slice_index, slice_set}
use Rattle.std.proofs.lemmas.Bool.{cases_eq}
use Rattle.presentations.specs.Vectors.{plus}
use Rattle.relations.specs.Bases.{Divides, Precedes, letter_count}
use Rattle.normal_forms.specs.Reductions.{minus, IsReduction}
use Rattle.normal_forms.proofs.Words.{plus-at, minus-at, length-minus, length-sum, same-word, rest-sum}
use Rattle.normal_forms.proofs.Ranks.{count-plus, at-most-count}

count-rest : (n : ℕ) (l w : List ℕ) → Divides n l w
    → letter_count n w ≡ letter_count n l + letter_count n (minus w l)
count-rest zero l w divides = refl
count-rest (suc n) l w divides =
    let h = divides n (omega arith) in
    omega (
      arith,
      h,
      count-rest n l w (λ i lt. divides i (omega (arith, lt))),
      minus-at w l n,
    )

pub precedes-most : (n : ℕ) (r l : List ℕ) → Precedes n r l → letter_count n r ≤ letter_count n l
precedes-most n r l (inl less) = omega (arith, less)
precedes-most n r l (inr (e, rest)) = omega (arith, e)

pub step-few : (n : ℕ) (r : List ℕ × List ℕ) (w u : List ℕ) → Precedes n r.1 r.0
    → IsReduction n r w u → letter_count n u ≤ letter_count n w
step-few n r w u falls step =
    let most = precedes-most n r.1 r.0 falls in
    rw (step.before, step.after)
    (omega (arith, most, count-plus n r.1 step.rest, count-plus n r.0 step.rest))

-- an exponent of the new word
pub exponent-few : (n : ℕ) (l r w : List ℕ) (i : ℕ) → i < n → Divides n l w → Precedes n r l
    → slice_index w i - slice_index l i + slice_index r i ≤ letter_count n w
exponent-few n l r w i lt divides falls =
    let most = precedes-most n r l falls in
    let at = at-most-count n (plus r (minus w l)) i lt in
    omega (
      arith,
      most,
      at,
      plus-at r (minus w l) i,
      minus-at w l i,
      count-plus n r (minus w l),
      count-rest n l w divides,
    )

pub replaced-is : (n : ℕ) (r : List ℕ × List ℕ) (w u : List ℕ) → length r.0 ≡ n → length r.1 ≡ n
    → length w ≡ n → length u ≡ n → Divides n r.0 w
    → ((i : ℕ) → i < n
    → slice_index u i ≡ slice_index w i - slice_index r.0 i + slice_index r.1 i)
    → IsReduction n r w u
replaced-is n r w u long_l long_r long_w long_u divides each = record {
  rest = minus w r.0;
  long = length-minus w r.0 ∙ long_w;
  before = rest-sum n r.0 w long_l long_w divides;
  after =
      same-word n u (plus r.1 (minus w r.0)) long_u
      (length-sum n r.1 (minus w r.0) long_r (length-minus w r.0 ∙ long_w))
      (λ i lt. omega (arith, each i lt, plus-at r.1 (minus w r.0) i, minus-at w r.0 i));
}

-- one exponent more
pub replaced-next : (n : ℕ) (l r w changed : List ℕ) (i : ℕ) → length changed ≡ n → i < n
    → ((k : ℕ) → k < i
    → slice_index changed k ≡ slice_index w k - slice_index l k + slice_index r k)
    → (k : ℕ) → k < i + 1
    → slice_index (slice_set changed i (slice_index w i - slice_index l i + slice_index r i)) k
    ≡ slice_index w k - slice_index l k + slice_index r k
replaced-next n l r w changed i long lt before k k_in = elim (cases_eq k i) [
  | inl same ↦
      rw same
      (get_or-set_same changed i (slice_index w i - slice_index l i + slice_index r i) 0
      (omega (arith, lt, long)))
  | inr other ↦
      get_or-set_other changed i k (slice_index w i - slice_index l i + slice_index r i) 0 other
      ∙ before k (omega (arith, k_in, other))
]
