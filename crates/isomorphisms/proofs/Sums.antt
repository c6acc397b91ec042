-- Sums over the numbers below a bound, and that a bijection keeps them: a term is a sum over all
-- places, with one that isn't nothing, and the two sums are exchanged.
use Rattle.std.proofs.Common.{◌≡◌, ◌∙◌, ℕ, zero, suc, ◌+◌, ◌<◌, ◌≤◌, Bool, true, false, refl, sym, ap, ap₂, add-one, add-zero, inl, inr, arith}
use Rattle.std.specs.Prelude.{◌==◌, if◌then◌else◌}
use Rattle.std.proofs.lemmas.Bool.{cases_eq, eq-eqb, ne_eqb}
use Rattle.isomorphisms.specs.Profiles.{sum_below, count_below}

pub same-terms : (F G : ℕ → ℕ) (n : ℕ) → ((x : ℕ) → x < n → F x ≡ G x)
    → sum_below F n ≡ sum_below G n
same-terms F G zero e = refl
same-terms F G (suc n) e =
    ap₂ (λ a b. a + b) (same-terms F G n (λ x l. e x (omega (arith, l)))) (e n (omega arith))

pub ones : (n : ℕ) → sum_below (λ x. 1) n ≡ n
ones zero = refl
ones (suc n) = let e = ones n in omega arith

zeros : (n : ℕ) → sum_below (λ x. 0) n ≡ 0
zeros zero = refl
zeros (suc n) = let e = zeros n in omega arith

plus : (F G : ℕ → ℕ) (n : ℕ)
    → sum_below F n + sum_below G n ≡ sum_below (λ x. F x + G x) n
plus F G zero = refl
plus F G (suc n) = let e = plus F G n in omega arith

exchanged : (H : ℕ → ℕ → ℕ) (n m : ℕ)
    → sum_below (λ i. sum_below (H i) m) n ≡ sum_below (λ j. sum_below (λ i. H i j) n) m
exchanged H zero m = sym (zeros m)
exchanged H (suc n) m =
    ap (λ s. s + sum_below (H n) m) (exchanged H n m)
    ∙ plus (λ j. sum_below (λ i. H i j) n) (H n) m

-- F at the place k, and elsewhere nothing
abbrev only_at : ℕ → (ℕ → ℕ) → ℕ → ℕ
only_at k F j = if k == j then F j else 0

nothing-before : (k : ℕ) (F : ℕ → ℕ) (m : ℕ) → m ≤ k → sum_below (only_at k F) m ≡ 0
nothing-before k F zero l = refl
nothing-before k F (suc m) l =
    let e = nothing-before k F m (omega arith) in
    rw (ne_eqb k m (λ is. omega arith), e) refl

at-one-place : (k : ℕ) (F : ℕ → ℕ) (m : ℕ) → k < m → sum_below (only_at k F) m ≡ F k
at-one-place k F zero l = absurd (omega arith)
at-one-place k F (suc m) l = elim (cases_eq k m) [
  | inl same ↦
      let e = nothing-before k F m (omega arith) in
      rw (eq-eqb k m same, e) (let v = ap F (sym same) in omega (arith, v))
  | inr other ↦
      let e = at-one-place k F m (omega (arith, other)) in
      rw (ne_eqb k m other, e) (omega arith)
]

pub bijection-keeps : (n m : ℕ) (f g : ℕ → ℕ) → ((x : ℕ) → x < n → f x < m)
    → ((y : ℕ) → y < m → g y < n) → ((x : ℕ) → x < n → g (f x) ≡ x)
    → ((y : ℕ) → y < m → f (g y) ≡ y) → (F : ℕ → ℕ)
    → sum_below (λ x. F (f x)) n ≡ sum_below F m
bijection-keeps n m f g onto back there here F =
    same-terms (λ x. F (f x)) (λ x. sum_below (only_at (f x) F) m) n
    (λ x l. sym (at-one-place (f x) F m (onto x l)))
    ∙ exchanged (λ x. only_at (f x) F) n m
    ∙ same-terms (λ y. sum_below (λ x. only_at (f x) F y) n) F m (λ y l.
    same-terms (λ x. only_at (f x) F y) (only_at (g y) (λ x. F y)) n (λ x k.
    ap (λ b. if b then F y else 0) (tests x y k l))
    ∙ at-one-place (g y) (λ x. F y) n (back y l))
  where
    tests : (x y : ℕ) → x < n → y < m → (f x == y) ≡ (g y == x)
    tests x y k l = elim (cases_eq (f x) y) [
      | inl is ↦ eq-eqb (f x) y is ∙ sym (eq-eqb (g y) x (sym (ap g is) ∙ there x k))
      | inr not ↦ ne_eqb (f x) y not
          ∙ sym (ne_eqb (g y) x (λ is. not (sym (ap f is) ∙ here y l)))
    ]

pub sum_more : (F : ℕ → ℕ) (n : ℕ) → sum_below F (n + 1) ≡ sum_below F n + F n
sum_more F n = ap (sum_below F) (add-one n)

pub count_more_yes : (p : ℕ → Bool) (n : ℕ) → p n ≡ true
    → count_below p (n + 1) ≡ count_below p n + 1
count_more_yes p n e =
    sum_more (λ x. if p x then 1 else 0) n
    ∙ ap (λ b. count_below p n + (if b then 1 else 0)) e

pub count_more_no : (p : ℕ → Bool) (n : ℕ) → p n ≡ false → count_below p (n + 1) ≡ count_below p n
count_more_no p n e =
    sum_more (λ x. if p x then 1 else 0) n
    ∙ ap (λ b. count_below p n + (if b then 1 else 0)) e ∙ add-zero (count_below p n)
