-- A game with infinitely many positions that are told apart has no finite misère quotient.
-- Their values would be as many different elements.
use Rattle.std.proofs.Common.{◌≡◌, ℕ, zero, suc, ◌<◌, ◌≤◌, ◌⊎◌, true, false, List, [], ◌∷◌, length, refl, sym, inl, inr, arith, eqb, eqb-true, ne_eqb}
use Rattle.std.specs.List.{list_any, IsDistinct, AllByRecursion}
use Rattle.std.proofs.lemmas.Map.Steps.{length-le_from_distinct_below}
use Rattle.misere_theory.specs.Games.{IsPosition, IsHeapUpTo, Indistinguishable}
use Rattle.misere_theory.specs.Quotients.{Claim, value, Represents}
use Rattle.misere_theory.specs.Parts.{AreToldApart, IsInfinite}
use Rattle.misere_theory.specs.Certificates.{Certificate, Accepted, IsHeapOf, kind_of, claim_of}
use Rattle.misere_theory.proofs.Sums.{value_in}
use Rattle.misere_theory.proofs.Counting.{position_where}
use Rattle.misere_theory.proofs.Outcomes.{not_both}
use Rattle.misere_theory.proofs.LocalRule.{true_or_false}
use Rattle.std.proofs.lemmas.Bool.{true≢false}

-- the values below n, from the last on
below : (ℕ → ℕ) → ℕ → List ℕ
below f zero = []
below f (suc n) = f n ∷ below f n

length-below : (f : ℕ → ℕ) (n : ℕ) → length (below f n) ≡ n
unfolding below
length-below f zero = refl
length-below f (suc n) = omega (arith, length-below f n)

module _ (f : ℕ → ℕ) (differ : (m n : ℕ) → m < n → f m ≡ f n → ⊥) where
  others : (k n : ℕ) → k ≤ n → AllByRecursion (λ y. eqb (f n) y ≡ false) (below f k)
  unfolding below
  others zero n l = tt
  others (suc k) n l =
      (ne_eqb (f n) (f k) (λ e. differ k n l (sym e)), others k n (omega arith))

  distinct : (n : ℕ) → IsDistinct eqb (below f n)
  unfolding below IsDistinct
  distinct zero = tt
  distinct (suc n) = (others n n (omega arith), distinct n)

  any_below : (q : ℕ) → ((n : ℕ) → f n < q) → (n x : ℕ) → list_any (eqb x) (below f n) ≡ true → x < q
  unfolding below
  any_below q small zero x e = absurd (true≢false (sym e))
  any_below q small (suc n) x e = elim (true_or_false (eqb x (f n))) [
    | inl t ↦ let i = eqb-true x (f n) t in let l = small n in omega arith
    | inr t ↦ any_below q small n x (rw t at e)
  ]

  not_below : (q : ℕ) → ((n : ℕ) → f n < q) → ⊥
  not_below q small =
      let l =
      length-le_from_distinct_below (below f (suc q)) q (distinct (suc q))
      (any_below q small (suc q)) in
      let e = length-below f (suc q) in absurd (omega arith)

not_alike : (heap : ℕ → Type 0) (code X Y : List ℕ) → AreToldApart heap code X Y
    → Indistinguishable heap code X Y → ⊥
not_alike heap code X Y (Z, p, t) a = elim t [
  | inl h ↦ not_both ((a Z p).0 h.0) h.1
  | inr h ↦ not_both ((a Z p).1 h.1) h.0
]

-- nor has a game with more heaps
pub no_quotient : (heap more : ℕ → Type 0) → ((n : ℕ) → heap n → more n) → (code : List ℕ) (d : Claim)
    → IsInfinite heap code → Represents more code d → ⊥
no_quotient heap more in_more code d (X, positions, told) r =
    let wider : (n : ℕ) → IsPosition more (X n) =
    λ n. position_where heap more in_more (X n) (positions n) in
    not_below (λ n. value d (X n))
    (λ m n l e. not_alike heap code (X m) (X n) (told m n l)
    (λ Z p. (r.indistinguishable (X m) (X n) (wider m) (wider n)).1 e Z
    (position_where heap more in_more Z p)))
    d.order (λ n. value_in more d r.monoid r.elements (X n) (wider n))

-- nor is a certificate accepted that speaks of all these heaps
pub no_certificate : (M : ℕ) (heap : ℕ → Type 0) → ((n : ℕ) → heap n → IsHeapUpTo M n)
    → (d : Certificate) → IsInfinite heap d.code → (kind_of d ≡ 0) ⊎ (M ≤ kind_of d) → Accepted d → ⊥
no_certificate M heap within d infinite far a =
    no_quotient heap (IsHeapOf d)
    (λ n s. let h = within n s in
    (h.0, λ some. let top = h.1 in elim far [ inl e ↦ absurd (omega arith) | inr l ↦ omega arith ]))
    d.code (claim_of d) infinite a.represents
