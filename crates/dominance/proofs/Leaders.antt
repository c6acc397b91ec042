-- A heap of a position that is no lighter than the others, and has the greatest lead of those as heavy.
-- By induction on the heaps: only such a heap can rule, and the others' lead has a bound.
use Rattle.std.proofs.Common.{◌≡◌, ℕ, ◌-◌, ◌*◌, ◌<◌, ◌≤◌, ◌⊎◌, max, List, [], ◌∷◌, refl, inl, inr, arith}
use Rattle.std.specs.List.{AllByRecursion}
use native.Mathlib.Decide.{dec_lt, dec_le}
use Rattle.misere_theory.specs.Games.{IsPosition, IsHeap}
use Rattle.misere_theory.proofs.Shuffles.{Shuffled}
use Rattle.misere_theory.proofs.Shuffles.Shuffled.{Same, Under, Flip, Then}
use Rattle.dominance.specs.Triples.{Triple, IsElement, triple_of}

module _ (label : ℕ → Triple) where
  abbrev pub ComesAfter : ℕ → ℕ → Type 0
  ComesAfter n m =
      ((label m).weight < (label n).weight)
      ⊎ (((label m).weight ≡ (label n).weight) × ((label m).lead ≤ (label n).lead))

  abbrev pub Leads : ℕ → List ℕ → Type 0
  Leads n Y = AllByRecursion (ComesAfter n) Y

  one_comes_after : (n m : ℕ) → ComesAfter n m ⊎ ComesAfter m n
  one_comes_after n m = elim (dec_lt (label m).weight (label n).weight) [
    | yes l ↦ inl (inl l)
    | no f ↦ elim (dec_lt (label n).weight (label m).weight) [
      | yes l ↦ inr (inl l)
      | no g ↦ elim (dec_le (label m).lead (label n).lead)
          [ yes l ↦ inl (inr (omega arith, l)) | no h ↦ inr (inr (omega arith, omega arith)) ]
    ]
  ]

  after_both : (a b c : ℕ) → ComesAfter a b → ComesAfter b c → ComesAfter a c
  after_both a b c (inl l) (inl m) = inl (omega arith)
  after_both a b c (inl l) (inr m) = inl (omega arith)
  after_both a b c (inr l) (inl m) = inl (omega arith)
  after_both a b c (inr l) (inr m) = inr (omega arith, omega arith)

  leads_more : (a b : ℕ) (Y : List ℕ) → ComesAfter a b → Leads b Y → Leads a Y
  leads_more a b [] l all = tt
  leads_more a b (m ∷ Y) l all = (after_both a b m l all.0, leads_more a b Y l all.1)

  -- a position that isn't empty has such a heap
  pub some_leads : (m : ℕ) (X : List ℕ)
      → (n : ℕ) × (Y : List ℕ) × Shuffled (m ∷ X) (n ∷ Y) × Leads n Y
  some_leads m [] = (m, [], Same, tt)
  some_leads m (a ∷ X) = let (n, Y, s, all) = some_leads a X in elim (one_comes_after n m) [
    | inl l ↦ (n, m ∷ Y, Then (Under s) Flip, (l, all))
    | inr l ↦ (m, n ∷ Y, Under s, (l, leads_more m n Y l all))
  ]

  module _ (elements : (n : ℕ) → IsHeap n → IsElement (label n)) where
    -- among heaps of a bounded weight the lead is below the bound
    pub below_weight : (b : ℕ) (Y : List ℕ) → IsPosition IsHeap Y
        → AllByRecursion (λ m. (label m).weight ≤ b) Y
        → (triple_of label Y).lead ≤ b - 1
    below_weight b [] p all = omega arith
    below_weight b (m ∷ Y) p all =
        let i = below_weight b Y p.1 all.1 in
        let l = all.0 in
        elim (elements m p.0) [ inl e ↦ omega arith | inr e ↦ omega arith ]

    pub no_heavier : (n : ℕ) (Y : List ℕ) → Leads n Y
        → AllByRecursion (λ m. (label m).weight ≤ (label n).weight) Y
    no_heavier n [] all = tt
    no_heavier n (m ∷ Y) all =
        (elim all.0 [ inl l ↦ omega arith | inr l ↦ omega arith ], no_heavier n Y all.1)

    pub led_at_most : (n : ℕ) (Y : List ℕ) → IsPosition IsHeap Y → Leads n Y
        → (triple_of label Y).lead
        ≤ max ((label n).lead - ((triple_of label Y).weight - (label n).weight))
        (2 * (label n).weight - 3 - (triple_of label Y).weight)
    led_at_most n [] p all = omega arith
    led_at_most n (m ∷ Y) p all =
        let i = led_at_most n Y p.1 all.1 in
        elim all.0 [
          | inl l ↦ elim (elements m p.0) [ inl e ↦ omega arith | inr e ↦ omega arith ]
          | inr l ↦ omega arith
        ]

    pub led_light : (n : ℕ) (Y : List ℕ) → Leads n Y → (label n).weight ≡ 0
        → (triple_of label Y).weight ≡ 0
    led_light n [] all e = refl
    led_light n (m ∷ Y) all e =
        let i = led_light n Y all.1 e in
        elim all.0 [ inl l ↦ omega arith | inr l ↦ omega arith ]
