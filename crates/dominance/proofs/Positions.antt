-- The triple of a sum is the product of the triples, and the order of heaps doesn't matter.
use Rattle.std.proofs.Common.{◌≡◌, ℕ, List, [], ◌∷◌, ◌++◌, refl, sym, ◌∙◌, ap, inl}
use Rattle.misere_theory.specs.Games.{IsPosition, IsHeap}
use Rattle.misere_theory.proofs.Shuffles.{Shuffled}
use Rattle.misere_theory.proofs.Shuffles.Shuffled.{Same, Under, Flip, Then}
use Rattle.dominance.specs.Triples.{Triple, nothing, times, IsElement, triple_of}
use Rattle.dominance.proofs.Triples.{identity, commutes, associates, element_times}

module _ (label : ℕ → Triple) where
  pub triple-append : (X Y : List ℕ)
      → triple_of label (X ++ Y) ≡ times (triple_of label X) (triple_of label Y)
  triple-append [] Y = sym (identity (triple_of label Y))
  triple-append (n ∷ X) Y =
      ap (times (label n)) (triple-append X Y)
      ∙ sym (associates (label n) (triple_of label X) (triple_of label Y))

  pub triple_shuffled : {X Y : List ℕ} → Shuffled X Y → triple_of label X ≡ triple_of label Y
  triple_shuffled Same = refl
  triple_shuffled (Under {n = n} s) = ap (times (label n)) (triple_shuffled s)
  triple_shuffled (Flip {a = a} {b = b} {X = X}) =
      sym (associates (label a) (label b) (triple_of label X))
      ∙ ap (λ u. times u (triple_of label X)) (commutes (label a) (label b))
      ∙ associates (label b) (label a) (triple_of label X)
  triple_shuffled (Then s t) = triple_shuffled s ∙ triple_shuffled t

  pub triple_alone : (n : ℕ) → triple_of label (n ∷ []) ≡ label n
  triple_alone n = commutes (label n) nothing ∙ identity (label n)

  module _ (elements : (n : ℕ) → IsHeap n → IsElement (label n)) where
    pub element_of : (X : List ℕ) → IsPosition IsHeap X → IsElement (triple_of label X)
    element_of [] p = inl refl
    element_of (n ∷ X) p =
        element_times (label n) (triple_of label X) (elements n p.0) (element_of X p.1)
