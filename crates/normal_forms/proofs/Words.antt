-- Exponents of sums and differences of words, and whether one word is in another.
use Rattle.std.proofs.Common.{◌≡◌, ◌⊎◌, ℕ, zero, suc, ◌+◌, ◌-◌, ◌<◌, List, [], ◌∷◌, length, refl, sym, ap, ◌∙◌, inl, inr, arith}
use Rattle.std.specs.Prelude.{slice_index}
use Rattle.std.proofs.lemmas.Bool.{cases_lt, cases_eq}
use Rattle.std.proofs.lemmas.List.{ext_get_or}
use Rattle.presentations.specs.Vectors.{plus}
use Rattle.presentations.proofs.VectorLaws.{length-plus}
use Rattle.relations.specs.Bases.{Divides}
use Rattle.normal_forms.specs.Reductions.{minus}

pub plus-at : (u w : List ℕ) (i : ℕ) → slice_index (plus u w) i ≡ slice_index u i + slice_index w i
plus-at [] w i = omega arith
plus-at (x ∷ u) [] i = omega arith
plus-at (x ∷ u) (y ∷ w) zero = refl
plus-at (x ∷ u) (y ∷ w) (suc i) = plus-at u w i

pub minus-at : (w v : List ℕ) (i : ℕ)
    → slice_index (minus w v) i ≡ slice_index w i - slice_index v i
minus-at [] v i = omega arith
minus-at (x ∷ w) [] i = omega arith
minus-at (x ∷ w) (y ∷ v) zero = refl
minus-at (x ∷ w) (y ∷ v) (suc i) = minus-at w v i

pub length-minus : (w v : List ℕ) → length (minus w v) ≡ length w
length-minus [] v = refl
length-minus (x ∷ w) [] = refl
length-minus (x ∷ w) (y ∷ v) = ap suc (length-minus w v)

pub length-sum : (n : ℕ) (u w : List ℕ) → length u ≡ n → length w ≡ n → length (plus u w) ≡ n
length-sum n u w e f = length-plus u w (e ∙ sym f) ∙ f

-- words with the same exponents
pub same-word : (n : ℕ) (u w : List ℕ) → length u ≡ n → length w ≡ n
    → ((i : ℕ) → i < n → slice_index u i ≡ slice_index w i) → u ≡ w
same-word n u w e f same = ext_get_or 0 u w (e ∙ sym f) (λ i lt. same i (omega (arith, lt, e)))

-- a word that is in another one, and what the other one has more
pub rest-sum : (n : ℕ) (v w : List ℕ) → length v ≡ n → length w ≡ n → Divides n v w
    → w ≡ plus v (minus w v)
rest-sum n v w e f divides =
    same-word n w (plus v (minus w v)) f (length-sum n v (minus w v) e (length-minus w v ∙ f))
    (λ i lt.
    let h = divides i lt in
    omega (arith, h, plus-at v (minus w v) i, minus-at w v i))

pub divides-sum : (n : ℕ) (v z : List ℕ) → Divides n v (plus v z)
divides-sum n v z i lt = omega (arith, plus-at v z i)

pub decide-divides : (n : ℕ) (v w : List ℕ) → Divides n v w ⊎ (Divides n v w → ⊥)
decide-divides zero v w = inl (λ i lt. absurd (omega (arith, lt)))
decide-divides (suc n) v w = elim (cases_lt (slice_index w n) (slice_index v n)) [
  | inl more ↦ inr (λ h. let at = h n (omega arith) in omega (arith, at, more))
  | inr less ↦
      elim (decide-divides n v w) [
        | inl all ↦
            inl (λ i lt.
            elim (cases_eq i n) [
              | inl same ↦ rw same less
              | inr other ↦ all i (omega (arith, lt, other))
            ])
        | inr none ↦ inr (λ h. none (λ i lt. h i (omega (arith, lt))))
      ]
]

-- Two ways to see a word as a multiple: each rest has what the other word has more, and a common part.
module _ (n : ℕ) (a b z y : List ℕ) (long_a : length a ≡ n) (long_b : length b ≡ n) (long_z : length z ≡ n) (long_y : length y ≡ n) (same : plus a z ≡ plus b y) where
  abbrev pub common_rest : List ℕ
  common_rest = minus z (minus b a)

  pub length-rest : length common_rest ≡ n
  length-rest = length-minus z (minus b a) ∙ long_z

  equal : (i : ℕ)
      → slice_index a i + slice_index z i ≡ slice_index b i + slice_index y i
  equal i = sym (plus-at a z i) ∙ ap (λ w. slice_index w i) same ∙ plus-at b y i

  pub first-rest : z ≡ plus (minus b a) common_rest
  first-rest =
      same-word n z (plus (minus b a) common_rest) long_z
      (length-sum n (minus b a) common_rest (length-minus b a ∙ long_b) length-rest)
      (λ i lt.
      omega (
        arith,
        equal i,
        plus-at (minus b a) common_rest i,
        minus-at b a i,
        minus-at z (minus b a) i,
      ))

  pub second-rest : y ≡ plus (minus a b) common_rest
  second-rest =
      same-word n y (plus (minus a b) common_rest) long_y
      (length-sum n (minus a b) common_rest (length-minus a b ∙ long_a) length-rest)
      (λ i lt.
      omega (
        arith,
        equal i,
        plus-at (minus a b) common_rest i,
        minus-at a b i,
        minus-at b a i,
        minus-at z (minus b a) i,
      ))
