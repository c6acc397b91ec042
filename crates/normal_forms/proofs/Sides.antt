-- Critical pairs: their sides, and where they join without a test.
use Rattle.std.proofs.Common.{◌≡◌, ◌⊎◌, ℕ, zero, suc, ◌+◌, ◌-◌, ◌<◌, ◌≤◌, List, length, refl, ap, subst, ◌∙◌, inl, inr, arith, get_or-set_other, get_or-set_same}
use Rattle.std.specs.Prelude.{slice_index, slice_index_or, slice_set, Contains}
use Rattle.std.proofs.lemmas.Bool.{cases_eq, cases_order}
use Rattle.std.proofs.lemmas.List.{get_or_default}
use Rattle.presentations.specs.Vectors.{plus}
use Rattle.presentations.proofs.VectorLaws.{plus-comm}
use Rattle.relations.specs.Bases.{Precedes, letter_count}
use Rattle.normal_forms.specs.Reductions.{minus, ReducesTo, Join, side_of, DoPairsJoin}
use Rattle.normal_forms.specs.Reductions.ReducesTo.{Stays, Goes}
use Rattle.normal_forms.proofs.Words.{plus-at, minus-at, length-minus, length-sum, same-word}
use Rattle.normal_forms.proofs.Ranks.{count-plus, at-most-count}
use Rattle.normal_forms.proofs.Replaced.{precedes-most}

-- ---- which word comes first

pub not-before : (n : ℕ) (v w : List ℕ) (i : ℕ) → letter_count n v ≡ letter_count n w
    → ((k : ℕ) → k < i → slice_index v k ≡ slice_index w k)
    → slice_index v i < slice_index w i → Precedes n v w → ⊥
not-before n v w i count same less (inl fewer) = omega (arith, count, fewer)
not-before n v w i count same less (inr (e, (j, j_in, more, same_))) = elim (cases_order i j) [
  | inl here ↦ let at : slice_index w i < slice_index v i = rw here more in omega (arith, less, at)
  | inr (inl before) ↦ let at = same_ i before in omega (arith, less, at)
  | inr (inr after) ↦ let at = same j after in omega (arith, more, at)
]

-- ---- sides

count-minus : (n : ℕ) (w v : List ℕ) → letter_count n (minus w v) ≤ letter_count n w
count-minus zero w v = omega arith
count-minus (suc n) w v = let h = count-minus n w v in omega (arith, h, minus-at w v n)

pub side-few : (n m : ℕ) (r s : List ℕ × List ℕ) → letter_count n r.0 + letter_count n s.0 ≤ m
    → Precedes n r.1 r.0 → letter_count n (side_of r s) ≤ m
side-few n m r s few falls =
    let most = precedes-most n r.1 r.0 falls in
    let rest = count-minus n s.0 r.0 in
    omega (arith, few, most, rest, count-plus n r.1 (minus s.0 r.0))

pub side-at : (r s : List ℕ × List ℕ) (i : ℕ)
    → slice_index (side_of r s) i
    ≡ slice_index r.1 i + (slice_index s.0 i - slice_index r.0 i)
side-at r s i = omega (arith, plus-at r.1 (minus s.0 r.0) i, minus-at s.0 r.0 i)

pub side-exponent : (n m : ℕ) (r s : List ℕ × List ℕ) (i : ℕ) → i < n
    → letter_count n r.0 + letter_count n s.0 ≤ m → Precedes n r.1 r.0
    → slice_index r.1 i + (slice_index s.0 i - slice_index r.0 i) ≤ m
side-exponent n m r s i lt few falls =
    let all = side-few n m r s few falls in
    let at = at-most-count n (side_of r s) i lt in
    omega (arith, all, at, side-at r s i)

pub length-side : (n : ℕ) (r s : List ℕ × List ℕ) → length r.1 ≡ n → length s.0 ≡ n
    → length (side_of r s) ≡ n
length-side n r s long_r long_s =
    length-sum n r.1 (minus s.0 r.0) long_r (length-minus s.0 r.0 ∙ long_s)

pub side-is : (n : ℕ) (r s : List ℕ × List ℕ) (u : List ℕ) → length r.1 ≡ n → length s.0 ≡ n
    → length u ≡ n
    → ((i : ℕ) → i < n
    → slice_index u i ≡ slice_index r.1 i + (slice_index s.0 i - slice_index r.0 i))
    → u ≡ side_of r s
side-is n r s u long_r long_s long_u each =
    same-word n u (side_of r s) long_u (length-side n r s long_r long_s)
    (λ i lt. omega (arith, each i lt, side-at r s i))

pub side-next : (l r o side : List ℕ) (n i : ℕ) → length side ≡ n → i < n
    → ((k : ℕ) → k < i
    → slice_index side k ≡ slice_index r k + (slice_index o k - slice_index l k))
    → (k : ℕ) → k < i + 1
    → slice_index (slice_set side i (slice_index r i + (slice_index o i - slice_index l i))) k
    ≡ slice_index r k + (slice_index o k - slice_index l k)
side-next l r o side n i long lt before k k_in = elim (cases_eq k i) [
  | inl same ↦
      rw same
      (get_or-set_same side i (slice_index r i + (slice_index o i - slice_index l i)) 0
      (omega (arith, lt, long)))
  | inr other ↦
      get_or-set_other side i k (slice_index r i + (slice_index o i - slice_index l i)) 0 other
      ∙ before k (omega (arith, k_in, other))
]

-- ---- pairs that join

pub join-turned : (n : ℕ) (relations : List (List ℕ × List ℕ)) (u v : List ℕ)
    → Join n relations u v → Join n relations v u
join-turned n relations u v join = record {
  word = join.word;
  left = join.right;
  right = join.left;
}

-- no letter is in both words
abbrev pub AreCoprime : ℕ → List ℕ → List ℕ → Type 0
AreCoprime n v w = (i : ℕ) → i < n → (slice_index v i ≡ 0) ⊎ (slice_index w i ≡ 0)

coprime-rest : (n : ℕ) (v w : List ℕ) → length v ≡ n → AreCoprime n v w → minus v w ≡ v
coprime-rest n v w long apart =
    same-word n (minus v w) v (length-minus v w ∙ long) long (λ i lt.
    elim (apart i lt) [
      | inl none ↦ omega (arith, none, minus-at v w i)
      | inr none ↦ omega (arith, none, minus-at v w i)
    ])

one-way : (n : ℕ) (relations : List (List ℕ × List ℕ)) (r s : List ℕ × List ℕ)
    → Contains relations s → length r.1 ≡ n → length s.0 ≡ n → AreCoprime n s.0 r.0
    → ReducesTo n relations (side_of r s) (plus s.1 r.1)
one-way n relations r s s_in long_r long_s apart =
    Goes s (side_of r s) (plus s.1 r.1) (plus s.1 r.1) s_in
    (record {
      rest = r.1;
      long = long_r;
      before =
          ap (plus r.1) (coprime-rest n s.0 r.0 long_s apart) ∙ plus-comm r.1 s.0;
      after = refl;
    }) (Stays (plus s.1 r.1))

-- the critical pair of two relations whose left words have no letter in common
pub coprime-join : (n : ℕ) (relations : List (List ℕ × List ℕ)) (r s : List ℕ × List ℕ)
    → Contains relations r → Contains relations s
    → (length r.0 ≡ n) × (length r.1 ≡ n) → (length s.0 ≡ n) × (length s.1 ≡ n)
    → AreCoprime n r.0 s.0 → Join n relations (side_of r s) (side_of s r)
coprime-join n relations r s r_in s_in long_r long_s apart = record {
  word = plus s.1 r.1;
  left =
      one-way n relations r s s_in long_r.1 long_s.0
      (λ i lt. elim (apart i lt) [ inl none ↦ inr none | inr none ↦ inl none ]);
  right =
      subst (ReducesTo n relations (side_of s r)) (plus-comm r.1 s.1)
      (one-way n relations s r r_in long_s.1 long_r.0 apart);
}

-- all pairs join where those of each relation with the ones before it do
module _ (n : ℕ) (relations : List (List ℕ × List ℕ)) where
  abbrev at : ℕ → List ℕ × List ℕ → List ℕ × List ℕ
  at k d = slice_index_or relations k d

  abbrev JoinsAt : ℕ → ℕ → List ℕ × List ℕ → Type 0
  JoinsAt i k d = Join n relations (side_of (at i d) (at k d)) (side_of (at k d) (at i d))

  pub joins-at : (i k : ℕ) (r s : List ℕ × List ℕ) → i < length relations → k < length relations
      → r ≡ slice_index_or relations i r → s ≡ slice_index_or relations k s
      → Join n relations (side_of r s) (side_of s r)
      → (d : List ℕ × List ℕ) → JoinsAt i k d
  joins-at i k r s i_in k_in r_is s_is join d =
      subst (λ t. Join n relations (side_of t (at k d)) (side_of (at k d) t))
      (r_is ∙ get_or_default relations i r d i_in)
      (subst (λ t. Join n relations (side_of r t) (side_of t r))
      (s_is ∙ get_or_default relations k s d k_in) join)

  pub pairs-from : ((i k : ℕ) (d : List ℕ × List ℕ) → i < length relations → k < i → JoinsAt i k d)
      → DoPairsJoin n relations
  pairs-from below i d lt k e k_lt =
      subst (λ s. Join n relations (side_of (at i d) s) (side_of s (at i d)))
      (get_or_default relations k d e k_lt)
      (elim (cases_order i k) [
        | inl same ↦
            rw same
            (record {
              word = side_of (at k d) (at k d);
              left = Stays (side_of (at k d) (at k d));
              right = Stays (side_of (at k d) (at k d));
            })
        | inr (inl before) ↦
            join-turned n relations (side_of (at k d) (at i d)) (side_of (at i d) (at k d))
            (below k i d k_lt before)
        | inr (inr after) ↦ below i k d lt after
      ])
