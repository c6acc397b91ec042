-- Axes with their relations are those of a box.
-- By induction on the letters: an axis more for each that occurs, with its least power's relation.
use Rattle.std.proofs.Common.{◌≡◌, ◌≢◌, ℕ, zero, suc, ◌+◌, ◌*◌, ◌<◌, ◌≤◌, true, false, List, [], ◌∷◌, ◌++◌, length, refl, sym, ap, ◌∙◌, inl, inr, arith}
use Rattle.std.specs.Prelude.{slice_index, slice_index_or, All}
use Rattle.std.proofs.Math.Nat.{mul_assoc}
use Rattle.std.proofs.lemmas.Bool.{cases_lt, cases_eq}
use Rattle.std.proofs.lemmas.List.{map-append, ext_get_or}
use Rattle.std.proofs.lemmas.List.Elements.{All-push}
use Rattle.std.proofs.lemmas.List.Quantifiers.{all_pairs_push}
use Rattle.std.specs.List.{AllPairs}
use Rattle.presentations.specs.declared.TheConstants.{LETTERS}
use Rattle.presentations.specs.declared.axes.Axis.{Axis}
use Rattle.presentations.specs.declared.read.Relation.{Relation}
use Rattle.presentations.specs.Vectors.{only}
use Rattle.presentations.specs.Congruences.{Related}
use Rattle.presentations.specs.Congruences.Related.{Given, Turned}
use Rattle.presentations.specs.Words.{occurs, letters_below, vector_on}
use Rattle.presentations.specs.Powers.{IsPowerOf, HasPower, IsLeastLarger, IsBoxSize}
use Rattle.presentations.specs.Boxes.{size_of, AreAxes}
use Rattle.presentations.specs.Merging.{letters_in, pairs_in, IsBox}
use Rattle.presentations.proofs.VectorLaws.{length-only, only-here, only-other}
use Rattle.presentations.proofs.BoxLaws.{no_axis}
use Rattle.presentations.proofs.PlaceLaws.{length-word, word-at}
use Rattle.presentations.proofs.WordLaws.{pair-of}
use Rattle.presentations.proofs.SizeLaws.{next-letters, box-more, box-skip}

-- the axis has its relation
abbrev pub HasRelation : List Relation → Axis → Type 0
HasRelation relations a = (k : ℕ) × HasPower relations a.letter a.most a.back k

axes-push : (s : ℕ) (axes : List Axis) (a : Axis) → AreAxes s axes → a.stride ≡ s * size_of axes
    → a.back < a.most → AreAxes s (axes ++ a ∷ [])
axes-push s [] a h e lt = (omega arith, lt, tt)
axes-push s (b ∷ axes) a h e lt = (
  h.0,
  h.1,
  axes-push (s * b.most) axes a h.2 (e ∙ sym (mul_assoc s b.most (size_of axes))) lt,
)

size-push : (axes : List Axis) (a : Axis) → size_of (axes ++ a ∷ []) ≡ size_of axes * a.most
size-push [] a = omega arith
size-push (b ∷ axes) a = rw (size-push axes a, mul_assoc) refl

abbrev pub Rise : List Axis → Type 0
Rise axes = AllPairs (λ a b. a.letter < b.letter) axes

-- letters that rise are at least their places
floor : (axes : List Axis) (d : Axis) → Rise axes → (i : ℕ) → i < length axes
    → i ≤ (slice_index_or axes i d).letter
floor axes d rise zero lt = omega arith
floor axes d rise (suc i) lt =
    omega (arith, floor axes d rise i (omega arith), rise i (suc i) d (omega arith) lt)

-- a power of one letter as a vector
power-vector : (axes : List Axis) (word : List ℕ) (i x : ℕ) (d : Axis) → i < length axes
    → All (λ a. a.letter < LETTERS) axes → Rise axes
    → IsPowerOf word (slice_index_or axes i d).letter
    → slice_index word (slice_index_or axes i d).letter ≡ x
    → vector_on (letters_in axes) word ≡ only (length axes) i x
power-vector axes word i x d lt below rise power is =
    ext_get_or 0 _ _ (length-word axes word ∙ sym (length-only (length axes) i x)) (λ k k_in.
    let inside : k < length axes = omega (arith, length-word axes word) in
    word-at axes word k d inside ∙ elim (cases_eq k i) [
      | inl here ↦ rw here (is ∙ sym (only-here (length axes) i x lt))
      | inr other ↦ power (slice_index_or axes k d).letter (below k d inside)
          (differ k inside other) ∙ sym (only-other (length axes) i k x other)
    ])
  where
    differ : (k : ℕ) → k < length axes → k ≢ i
        → (slice_index_or axes k d).letter ≢ (slice_index_or axes i d).letter
    differ k h ne e = elim (cases_lt k i) [
      | inl low ↦ absurd (omega (arith, e, rise k i d low lt))
      | inr high ↦ absurd (omega (arith, e, rise i k d (omega (arith, ne)) h))
    ]

axis-related : (relations : List Relation) (axes : List Axis) (i : ℕ) (d : Axis)
    → HasRelation relations (slice_index_or axes i d) → All (λ a. a.letter < LETTERS) axes
    → Rise axes → i < length axes
    → Related (length axes) (pairs_in axes relations)
    (only (length axes) i (slice_index_or axes i d).most)
    (only (length axes) i (slice_index_or axes i d).back)
axis-related relations axes i d p below rise lt =
    let a = slice_index_or axes i d in
    let none : Relation = record { left = []; right = [] } in
    let r = slice_index_or relations p.0 none in
    let is = p.1.is none in
    let given : Related (length axes) (pairs_in axes relations) (vector_on (letters_in axes) r.left)
    (vector_on (letters_in axes) r.right) =
    Given _ (pair-of (letters_in axes) relations p.0 none p.1.within) in
    elim is.exponents [
      | inl same ↦
          rw (
            power-vector axes r.left i a.most d lt below rise is.left same.0,
            power-vector axes r.right i a.back d lt below rise is.right same.1,
          ) at given
      | inr turned ↦
          Turned _ _ (rw (
            power-vector axes r.left i a.back d lt below rise is.left turned.0,
            power-vector axes r.right i a.most d lt below rise is.right turned.1,
          ) at given)
    ]

-- the axes of the letters below n
pub record Built (relations : List Relation) (limit n size : ℕ) (axes : List Axis) : Type 0 where
  pub axes_are : AreAxes 1 axes
  pub size_is : size ≡ size_of axes
  pub within : size ≤ limit
  pub letters : letters_in axes ≡ letters_below relations n
  pub below : All (λ a. a.letter < n) axes
  pub rising : Rise axes
  pub powers : All (HasRelation relations) axes
  pub box : IsBoxSize relations (letters_below relations n) size

pub built-skip : {relations : List Relation} {limit n size : ℕ} {axes : List Axis}
    → Built relations limit n size axes → occurs relations n ≡ false
    → Built relations limit (n + 1) size axes
built-skip {relations} {n = n} {size = size} b e = record {
  axes_are = b.axes_are;
  size_is = b.size_is;
  within = b.within;
  letters = b.letters ∙ sym (next-letters relations n false e);
  below = λ k d lt. omega (arith, b.below k d lt);
  rising = b.rising;
  powers = b.powers;
  box = box-skip relations n size b.box e;
}

pub built-push : {relations : List Relation} {limit n size most back k : ℕ} {axes : List Axis}
    → Built relations limit n size axes → occurs relations n ≡ true
    → HasPower relations n most back k → IsLeastLarger relations n most → size * most ≤ limit
    → Built relations limit (n + 1) (size * most)
    (axes ++ (record { letter = n; most = most; back = back; stride = size }) ∷ [])
built-push {relations} {n = n} {size = size} {most = most} {back = back} {k = k} {axes = axes} b e
    p least le =
    let a : Axis = record { letter = n; most = most; back = back; stride = size } in
    record {
      axes_are =
          axes-push 1 axes a b.axes_are (omega (arith, b.size_is))
          (p.is (record { left = []; right = [] })).less;
      size_is = ap (λ s. s * most) b.size_is ∙ sym (size-push axes a);
      within = le;
      letters = map-append (λ a. a.letter) axes (a ∷ []) ∙ ap (λ ls. ls ++ n ∷ []) b.letters
          ∙ sym (next-letters relations n true e);
      below = All-push (λ a. a.letter < n + 1) axes a (λ k d lt. omega (arith, b.below k d lt))
          (omega arith);
      rising = all_pairs_push (λ a b. a.letter < b.letter) axes a b.rising b.below;
      powers = All-push (HasRelation relations) axes a b.powers (k, p);
      box = box-more relations n size most b.box e least;
    }

-- after the last letter
pub built-end : {relations : List Relation} {limit n size : ℕ} {axes : List Axis}
    → Built relations limit n size axes → n ≤ LETTERS → LETTERS ≤ n
    → Built relations limit LETTERS size axes
built-end {n = n} b low high = let end : n ≡ LETTERS = omega arith in rw end at b

pub built-box : {relations : List Relation} {limit size : ℕ} {axes : List Axis}
    → Built relations limit LETTERS size axes → limit < 4294967296 → IsBox axes relations
built-box {relations} {axes = axes} b small = record {
  axes_are = b.axes_are;
  small = omega (arith, b.size_is, b.within);
  letters = b.below;
  powers = λ i d lt. axis-related relations axes i d (b.powers i d lt) b.below b.rising lt;
}

pub few-letters : {relations : List Relation} {limit size : ℕ} {axes : List Axis}
    → Built relations limit LETTERS size axes → length axes ≤ LETTERS
few-letters {axes = axes} b = elim (cases_lt LETTERS (length axes)) [
  | inl more ↦
      let d = no_axis in
      absurd (omega (arith, floor axes d b.rising LETTERS more, b.below LETTERS d more))
  | inr few ↦ few
]
