-- A position has a lead exactly where one of its heaps rules the others.
-- By induction on the heaps.
use Rattle.std.proofs.Common.{◌≡◌, ℕ, ◌+◌, ◌-◌, ◌<◌, ◌≤◌, ◌↔◌, List, [], ◌∷◌, ◌++◌, refl, ap, arith}
use native.Mathlib.Decide.{dec_lt}
use Rattle.dominance.specs.Triples.{Triple, triple_of, IsRuled}

module _ (label : ℕ → Triple) where
  -- the lead of a heap is left beside the weight of the others
  ruler : (X : List ℕ) → 0 < (triple_of label X).lead → (A : List ℕ) × (n : ℕ) × (B : List ℕ)
      × (X ≡ A ++ n ∷ B)
      × ((triple_of label X).lead + (triple_of label (A ++ B)).weight ≡ (label n).lead)
  ruler [] l = absurd (omega arith)
  ruler (m ∷ X) l = elim (dec_lt ((triple_of label X).lead - (label m).weight)
      ((label m).lead - (triple_of label X).weight)) [
        | yes h ↦ ([], m, X, refl, omega arith)
        | no h ↦ let (A, n, B, e, f) = ruler X (omega arith) in
            (m ∷ A, n, B, ap (λ l. m ∷ l) e, omega arith)
      ]

  rules_at_least : (A : List ℕ) (n : ℕ) (B : List ℕ)
      → (label n).lead ≤ (triple_of label (A ++ n ∷ B)).lead + (triple_of label (A ++ B)).weight
  rules_at_least [] n B = omega arith
  rules_at_least (m ∷ A) n B = let i = rules_at_least A n B in omega arith

  pub ruled_exactly : (X : List ℕ) → (0 < (triple_of label X).lead) ↔ IsRuled label X
  ruled_exactly X = (
    λ l. let (A, n, B, e, f) = ruler X l in (A, n, B, e, omega arith),
    λ r.
        let (A, n, B, e, l) = r in
        let i = rules_at_least A n B in
        let f = ap (λ Z. (triple_of label Z).lead) e in
        omega arith,
  )
