-- The pigeonhole principle for functions of numbers, and where a number stands among their first
-- values.
use Rattle.std.proofs.Common.{◌≡◌, ◌≢◌, ◌∙◌, ℕ, zero, suc, ◌<◌, ◌≤◌, ◌⊎◌, inl, inr, List, get_or, map, eqb, refl, sym, ap, subst, arith}
use Rattle.std.specs.List.{range_with_len}
use Rattle.std.proofs.lemmas.Bool.{cases_eq, eqb-true, ne_eqb}
use Rattle.std.proofs.lemmas.List.FromFn.{get_or-map-range_with_len, length-map-range_with_len}
use Rattle.std.proofs.lemmas.Map.Keys.{IsDistinct-from_apart}
use Rattle.std.proofs.lemmas.Map.Steps.{length-le_from_distinct_below}
use Rattle.std.proofs.lemmas.Map.Views.{Contains-from_any}

-- no two of the first l are equal
abbrev pub OnceBelow : ℕ → (ℕ → ℕ) → Type 0
OnceBelow l u = (i j : ℕ) → i < l → j < l → u i ≡ u j → i ≡ j

-- x is none of the first l
abbrev pub Misses : ℕ → (ℕ → ℕ) → ℕ → Type 0
Misses l u x = (i : ℕ) → i < l → u i ≢ x

-- x is one of the first l
abbrev pub Finds : ℕ → (ℕ → ℕ) → ℕ → Type 0
Finds l u x = (i : ℕ) × (i < l) × (u i ≡ x)

abbrev pub AllBelow : ℕ → (ℕ → ℕ) → ℕ → Type 0
AllBelow l u n = (i : ℕ) → i < l → u i < n

-- x, and all others behind it
abbrev pub before : ℕ → (ℕ → ℕ) → ℕ → ℕ
before x u zero = x
before x u (suc i) = u i

pub before-once : (x l : ℕ) (u : ℕ → ℕ) → OnceBelow l u → Misses l u x → OnceBelow (suc l) (before x u)
before-once x l u once misses zero zero p q e = refl
before-once x l u once misses zero (suc j) p q e = absurd (misses j (omega (arith, q)) (sym e))
before-once x l u once misses (suc i) zero p q e = absurd (misses i (omega (arith, p)) e)
before-once x l u once misses (suc i) (suc j) p q e =
    ap suc (once i j (omega (arith, p)) (omega (arith, q)) e)

pub before-below : (x l n : ℕ) (u : ℕ → ℕ) → x < n → AllBelow l u n → AllBelow (suc l) (before x u) n
before-below x l n u lt below zero p = lt
before-below x l n u lt below (suc i) p = below i (omega (arith, p))

pub before-misses : (x y l : ℕ) (u : ℕ → ℕ) → x ≢ y → Misses l u y → Misses (suc l) (before x u) y
before-misses x y l u ne misses zero p = ne
before-misses x y l u ne misses (suc i) p = misses i (omega (arith, p))

abbrev firsts : (ℕ → ℕ) → ℕ → List ℕ
firsts u l = map u (range_with_len 0 l)

first-at : (u : ℕ → ℕ) (l i d : ℕ) → i < l → get_or (firsts u l) i d ≡ u i
first-at u l i d lt = get_or-map-range_with_len u 0 l i i d lt (omega arith)

-- the pigeonhole principle: m different numbers below n
pub few : (n m : ℕ) (u : ℕ → ℕ) → AllBelow m u n → OnceBelow m u → m ≤ n
few n m u below once =
    let long = length-map-range_with_len u 0 m in
    let le =
    length-le_from_distinct_below (firsts u m) n
    (IsDistinct-from_apart eqb (firsts u m) (λ i j d lt l. ne_eqb _ _ (λ same.
    let is =
    once i j (omega arith) (omega arith)
    (sym (first-at u m i d (omega arith)) ∙ (same ∙ first-at u m j d (omega arith))) in
    omega arith)))
    (λ q any.
    let (k, l, is) = Contains-from_any eqb-true q (firsts u m) any in
    let low = below k (omega arith) in
    omega (arith, first-at u m k q (omega arith))) in
    omega arith

pub look : (l : ℕ) (u : ℕ → ℕ) (x : ℕ) → Finds l u x ⊎ Misses l u x
look zero u x = inr (λ i lt. absurd (omega (arith, lt)))
look (suc l) u x = elim (cases_eq (u l) x) [
  | inl e ↦ inl (l, omega arith, e)
  | inr ne ↦ elim (look l u x) [
    | inl (i, lt, e) ↦ inl (i, omega (arith, lt), e)
    | inr misses ↦ inr (λ i lt e. elim (cases_eq i l) [
      | inl same ↦ ne (subst (λ k. u k ≡ x) same e)
      | inr other ↦ misses i (omega (arith, lt, other)) e
    ])
  ]
]

-- one of the numbers below n is missed, or each is found
pub look-all : (n l : ℕ) (u : ℕ → ℕ)
    → ((x : ℕ) × (x < n) × Misses l u x) ⊎ ((x : ℕ) → x < n → Finds l u x)
look-all zero l u = inr (λ x lt. absurd (omega (arith, lt)))
look-all (suc n) l u = elim (look l u n) [
  | inr misses ↦ inl (n, omega arith, misses)
  | inl found ↦ elim (look-all n l u) [
    | inl (x, lt, misses) ↦ inl (x, omega (arith, lt), misses)
    | inr each ↦ inr (λ x lt. elim (cases_eq x n) [
      | inl same ↦ subst (Finds l u) (sym same) found
      | inr other ↦ each x (omega (arith, lt, other))
    ])
  ]
]

-- where x stands among the first l, or 0
pub index : ℕ → (ℕ → ℕ) → ℕ → ℕ
index l u x = elim (look l u x) [ inl f ↦ f.0 | inr g ↦ 0 ]

pub index-is : (l : ℕ) (u : ℕ → ℕ) (x : ℕ) → Finds l u x → (index l u x < l) × (u (index l u x) ≡ x)
unfolding index
index-is l u x f =
    elim (look l u x) as
    (λ s. (elim s [ inl f ↦ f.0 | inr g ↦ 0 ] < l) × (u (elim s [ inl f ↦ f.0 | inr g ↦ 0 ]) ≡ x)) [
      | inl f ↦ (f.1, f.2)
      | inr g ↦ absurd (g f.0 f.1 f.2)
    ]

-- so an element that is known by where it stands stands there
pub index-of : (l : ℕ) (u : ℕ → ℕ) → OnceBelow l u → (i : ℕ) → i < l → index l u (u i) ≡ i
index-of l u once i lt =
    let at = index-is l u (u i) (i, lt, refl) in
    once (index l u (u i)) i at.0 lt at.1

-- l numbers among which each below n is found
pub many : (n l : ℕ) (u : ℕ → ℕ) → ((x : ℕ) → x < n → Finds l u x) → n ≤ l
many n l u each =
    few l n (index l u) (λ x lt. (index-is l u x (each x lt)).0)
    (λ x y p q e. sym (index-is l u x (each x p)).1 ∙ (ap u e ∙ (index-is l u y (each y q)).1))

-- as many different numbers below n as n are all of them
pub all-found : (n l : ℕ) (u : ℕ → ℕ) → n ≤ l → AllBelow l u n → OnceBelow l u → (x : ℕ) → x < n
    → Finds l u x
all-found n l u enough below once x lt = elim (look l u x) [
  | inl found ↦ found
  | inr misses ↦
      let le : suc l ≤ n =
      few n (suc l) (before x u) (before-below x l n u lt below) (before-once x l u once misses)
      in
      absurd (omega (arith, le, enough))
]
