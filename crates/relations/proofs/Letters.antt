-- The first letters, and the vectors of words in them.
-- A letter more adds one to an exponent, and a product of powers goes on from letter to letter.
use Rattle.std.proofs.Common.{◌≡◌, ◌≢◌, ℕ, zero, suc, ◌+◌, ◌-◌, ◌<◌, ◌≤◌, List, [], ◌∷◌, length, get_or, drop, true, false, refl, sym, ap, ap₂, ◌∙◌, inl, inr, arith, subst, get_or-set_other, get_or-set_same}
use Rattle.std.specs.Prelude.{slice_index, slice_set, nat_lt}
use Rattle.std.proofs.lemmas.Bool.{cases_lt, cases_eq, lt-ltb, le-ltb}
use Rattle.std.proofs.lemmas.List.{ext_get_or, get_or-map, get_or_append_left}
use Rattle.std.proofs.Math.Seq.{drop-cons, get_or-append_seam}
use Rattle.monoid_table.specs.Laws.{power_of}
use Rattle.presentations.specs.declared.TheConstants.{LETTERS}
use Rattle.presentations.specs.declared.read.Relation.{Relation}
use Rattle.presentations.specs.Vectors.{zeros, bump}
use Rattle.presentations.specs.Words.{occurs, letters_below, letters_of}
use Rattle.presentations.specs.Tables.{product_at}
use Rattle.presentations.proofs.VectorLaws.{length-zeros, length-bump, zeros-at}
use Rattle.relations.specs.Presented.{first_letters, vector_of}
use Rattle.relations.proofs.Rewritings.{length-letters, length-vector}

-- the letters that occur are the first ones
below-first : (relations : List Relation) (n m : ℕ) → m ≤ n
    → ((k : ℕ) → k < m → occurs relations k ≡ nat_lt k n)
    → letters_below relations m ≡ first_letters m
below-first relations n zero le is = refl
below-first relations n (suc m) le is =
    let e : occurs relations m ≡ true = is m (omega arith) ∙ lt-ltb m n (omega arith) in
    rw (e, below-first relations n m (omega arith) (λ k h. is k (omega arith))) refl

above-first : (relations : List Relation) (n m : ℕ)
    → ((k : ℕ) → k < n + m → occurs relations k ≡ nat_lt k n)
    → letters_below relations (n + m) ≡ first_letters n
above-first relations n zero is =
    let e : n + 0 ≡ n = omega arith in
    rw e (below-first relations n n (omega arith) (λ k h. is k (omega arith)))
above-first relations n (suc m) is =
    let next : n + suc m ≡ suc (n + m) = omega arith in
    let e : occurs relations (n + m) ≡ false =
    is (n + m) (omega arith) ∙ le-ltb (n + m) n (omega arith) in
    rw (next, e) (above-first relations n m (λ k h. is k (omega arith)))

pub letters-exact : (relations : List Relation) (n : ℕ) → n ≤ LETTERS
    → ((k : ℕ) → k < LETTERS → occurs relations k ≡ nat_lt k n)
    → letters_of relations ≡ first_letters n
letters-exact relations n le is =
    let e : n + (LETTERS - n) ≡ LETTERS = omega arith in
    subst (λ j. letters_below relations j ≡ first_letters n) e
    (above-first relations n (LETTERS - n) (λ k h. is k (omega arith)))

letter-at : (n i : ℕ) → i < n → get_or (first_letters n) i 0 ≡ i
letter-at zero i lt = absurd (omega arith)
letter-at (suc n) i lt = elim (cases_lt i n) [
  | inl low ↦
      get_or_append_left (first_letters n) (n ∷ []) 0 i (omega (arith, length-letters n))
      ∙ letter-at n i low
  | inr high ↦
      let e : i ≡ n = omega arith in
      rw (e) (rw (length-letters n) at (get_or-append_seam (first_letters n) n [] 0))
]

-- an exponent of a word's vector
pub vector-at : (n : ℕ) (word : List ℕ) (i : ℕ) → i < n
    → get_or (vector_of n word) i 0 ≡ slice_index word i
vector-at n word i lt =
    get_or-map (slice_index word) (first_letters n) i 0 0 (omega (arith, length-letters n))
    ∙ ap (slice_index word) (letter-at n i lt)

pub vector-same : (n : ℕ) (v w : List ℕ)
    → ((i : ℕ) → i < n → slice_index v i ≡ slice_index w i) → vector_of n v ≡ vector_of n w
vector-same n v w same =
    ext_get_or 0 (vector_of n v) (vector_of n w) (length-vector n v ∙ sym (length-vector n w))
    (λ i lt.
    let i_in : i < n = omega (arith, length-vector n v) in
    vector-at n v i i_in ∙ same i i_in ∙ sym (vector-at n w i i_in))

pub vector-zeros : (n : ℕ) (word : List ℕ) → ((i : ℕ) → i < n → slice_index word i ≡ 0)
    → vector_of n word ≡ zeros n
vector-zeros n word none =
    ext_get_or 0 (vector_of n word) (zeros n) (length-vector n word ∙ sym (length-zeros n)) (λ i lt.
    let i_in : i < n = omega (arith, length-vector n word) in
    vector-at n word i i_in ∙ none i i_in ∙ sym (zeros-at n i))

pub bump-at : (v : List ℕ) (i : ℕ) → i < length v → get_or (bump v i) i 0 ≡ get_or v i 0 + 1
bump-at [] i lt = absurd (omega arith)
bump-at (x ∷ v) zero lt = refl
bump-at (x ∷ v) (suc i) lt = bump-at v i (omega arith)

pub bump-other : (v : List ℕ) (i k : ℕ) → k ≢ i → get_or (bump v i) k 0 ≡ get_or v k 0
bump-other [] i k ne = refl
bump-other (x ∷ v) zero zero ne = absurd (ne refl)
bump-other (x ∷ v) zero (suc k) ne = refl
bump-other (x ∷ v) (suc i) zero ne = refl
bump-other (x ∷ v) (suc i) (suc k) ne = bump-other v i k (λ e. ne (ap suc e))

-- one letter more in a word
pub vector-bump : (n : ℕ) (word : List ℕ) (i x : ℕ) → i < n → i < length word
    → x ≡ slice_index word i + 1
    → vector_of n (slice_set word i x) ≡ bump (vector_of n word) i
vector-bump n word i x lt long is =
    ext_get_or 0 (vector_of n (slice_set word i x)) (bump (vector_of n word) i)
    (length-vector n (slice_set word i x)
    ∙ sym (length-bump (vector_of n word) i ∙ length-vector n word))
    (λ k h.
    let k_in : k < n = omega (arith, length-vector n (slice_set word i x)) in
    vector-at n (slice_set word i x) k k_in ∙ entry k k_in)
  where
    entry : (k : ℕ) → k < n
        → slice_index (slice_set word i x) k ≡ get_or (bump (vector_of n word) i) k 0
    entry k k_in = elim (cases_eq k i) [
      | inl same ↦
          rw (
            same,
            get_or-set_same word i x 0 long,
            bump-at (vector_of n word) i (omega (arith, length-vector n word)),
            vector-at n word i lt,
          ) is
      | inr other ↦
          rw (
            get_or-set_other word i k x 0 other,
            bump-other (vector_of n word) i k other,
            vector-at n word k k_in,
          ) refl
    ]

-- a product of powers from the one at i on
pub product-drop : (times : ℕ → ℕ → ℕ) (gs v : List ℕ) (i : ℕ) → i < length gs → i < length v
    → product_at times (drop i gs) (drop i v)
    ≡ times (power_of 0 times (get_or gs i 0) (get_or v i 0))
    (product_at times (drop (suc i) gs) (drop (suc i) v))
product-drop times gs v i in_gs in_v =
    ap₂ (product_at times) (drop-cons gs i 0 in_gs) (drop-cons v i 0 in_v)
