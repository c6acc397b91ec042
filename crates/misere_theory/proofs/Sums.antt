-- Moves, sizes, labels and values of a sum of positions.
-- By induction on the heaps of the first part.
use Rattle.std.proofs.Common.{◌≡◌, ℕ, ◌+◌, ◌-◌, ◌*◌, ◌<◌, ◌⊎◌, List, [], ◌∷◌, ◌++◌, refl, sym, ◌∙◌, ap, ap₂, subst, inl, inr, append_assoc, arith}
use Rattle.misere_theory.specs.Games.{HeapOption, Move, measure, IsPosition, IsHeap, IsHeapUpTo}
use Rattle.misere_theory.specs.Games.HeapOption.{Nothing, One, Two, Three}
use Rattle.misere_theory.specs.Games.Move.{Here, There}
use Rattle.misere_theory.specs.Quotients.{Claim, Monoid, GivesElements, value}
use Rattle.misere_theory.specs.Parts.{IsPart}
use Rattle.misere_theory.specs.Labels.{LabelClaim, label_of, AreLabels, over_elements}

-- a move in a position with a first heap is in that heap or in the others
pub first_or_rest : {code : List ℕ} {n : ℕ} {X Y : List ℕ} → Move code (n ∷ X) Y
    → ((H : List ℕ) × HeapOption code n H × (Y ≡ H ++ X))
    ⊎ ((X' : List ℕ) × Move code X X' × (Y ≡ n ∷ X'))
first_or_rest (Here o e) = inl (_, o, e)
first_or_rest (There m e) = inr (_, m, e)

pub no_move_of_none : {code : List ℕ} {Y : List ℕ} → Move code [] Y → ⊥
no_move_of_none m = elim m [ ]

-- a move of a sum is a move of one of the two
pub sum_moves : (code X Y Z : List ℕ) → Move code (X ++ Y) Z
    → ((X' : List ℕ) × Move code X X' × (Z ≡ X' ++ Y))
    ⊎ ((Y' : List ℕ) × Move code Y Y' × (Z ≡ X ++ Y'))
sum_moves code [] Y Z m = inr (Z, m, refl)
sum_moves code (n ∷ X) Y Z m =
    elim (first_or_rest m) [
      | inl (H, o, e) ↦ inl (H ++ X, Here o refl, e ∙ sym (append_assoc H X Y))
      | inr (R, k, e) ↦ elim (sum_moves code X Y R k) [
        | inl (X', i, f) ↦ inl (n ∷ X', There i refl, e ∙ ap (λ l. n ∷ l) f)
        | inr (Y', i, f) ↦ inr (Y', i, e ∙ ap (λ l. n ∷ l) f)
      ]
    ]

pub move_on_left : (code X X' Y : List ℕ) → Move code X X' → Move code (X ++ Y) (X' ++ Y)
move_on_left code _ X' Y (Here o e) = Here o (ap (λ l. l ++ Y) e ∙ append_assoc _ _ Y)
move_on_left code _ X' Y (There m e) = There (move_on_left code _ _ Y m) (ap (λ l. l ++ Y) e)

pub move_on_right : (code X Y Y' : List ℕ) → Move code Y Y' → Move code (X ++ Y) (X ++ Y')
move_on_right code [] Y Y' m = m
move_on_right code (n ∷ X) Y Y' m = There (move_on_right code X Y Y' m) refl

pub measure-append : (X Y : List ℕ) → measure (X ++ Y) ≡ measure X + measure Y
measure-append [] Y = omega arith
measure-append (n ∷ X) Y = omega (arith, measure-append X Y)

pub option_smaller : {code : List ℕ} {n : ℕ} {H : List ℕ} → HeapOption code n H
    → measure H < 2 * n - 1
option_smaller (Nothing j p e b) = omega arith
option_smaller (One j a p q e b) = omega arith
option_smaller (Two j a b p q e c) = omega arith
option_smaller (Three j a b c p q r e s) = omega arith

-- moves lower the measure
pub move_smaller : {code X Y : List ℕ} → Move code X Y → measure Y < measure X
move_smaller (Here {n = n} {X = X} {H = H} o e) =
    rw e (omega (arith, measure-append H X, option_smaller o))
move_smaller (There m e) = rw e (omega (arith, move_smaller m))

pub IsPosition-append : (heap : ℕ → Type 0) (X Y : List ℕ) → IsPosition heap X → IsPosition heap Y
    → IsPosition heap (X ++ Y)
IsPosition-append heap [] Y p q = q
IsPosition-append heap (n ∷ X) Y p q = (p.0, IsPosition-append heap X Y p.1 q)

pub heaps_kept : (code : List ℕ) → IsPart IsHeap code
heaps_kept code n _ h (Nothing j p e b) = tt
heaps_kept code n _ h (One j a p q e b) = (q, tt)
heaps_kept code n _ h (Two j a b p q e c) = (p, (q, tt))
heaps_kept code n _ h (Three j a b c p q r e s) = (p, (q, (r, tt)))

pub heaps_up_to_kept : (M : ℕ) (code : List ℕ) → IsPart (IsHeapUpTo M) code
heaps_up_to_kept M code n _ h (Nothing j p e b) = tt
heaps_up_to_kept M code n _ h (One j a p q e b) = ((q, let k = h.1 in omega arith), tt)
heaps_up_to_kept M code n _ h (Two j a b p q e c) =
    ((p, let k = h.1 in omega arith), ((q, let k = h.1 in omega arith), tt))
heaps_up_to_kept M code n _ h (Three j a b c p q r e s) = (
  (p, let k = h.1 in omega arith),
  ((q, let k = h.1 in omega arith), ((r, let k = h.1 in omega arith), tt)),
)

-- a move leads from a position to a position
pub move_kept : (heap : ℕ → Type 0) (code : List ℕ) → IsPart heap code → {X Y : List ℕ}
    → Move code X Y → IsPosition heap X
    → IsPosition heap Y
move_kept heap code k (Here {n = n} {X = X} {H = H} o e) p =
    rw e (IsPosition-append heap H X (k n H p.0 o) p.1)
move_kept heap code k (There m e) p = rw e (p.0, move_kept heap code k m p.1)

module _
    {L : Type 0} (IsLabel : L → Type 0) (c : LabelClaim L) (m : AreLabels IsLabel c.one c.times)
    (heap : ℕ → Type 0) (labels : (n : ℕ) → heap n → IsLabel (c.label n)) where
  pub label_in : (X : List ℕ) → IsPosition heap X → IsLabel (label_of c X)
  label_in [] p = m.some
  label_in (n ∷ X) p = m.closed _ _ (labels n p.0) (label_in X p.1)

  pub label-append : (X Y : List ℕ) → IsPosition heap X → IsPosition heap Y
      → label_of c (X ++ Y) ≡ c.times (label_of c X) (label_of c Y)
  label-append [] Y p q = sym (m.identity _ (label_in Y q))
  label-append (n ∷ X) Y p q = ap (c.times (c.label n)) (label-append X Y p.1 q)
      ∙ sym (m.associates _ _ _ (labels n p.0) (label_in X p.1) (label_in Y q))

-- values are labels
pub value_is : (c : Claim) (X : List ℕ) → label_of (over_elements c) X ≡ value c X
value_is c [] = refl
value_is c (n ∷ X) = ap (c.times (c.phi n)) (value_is c X)

pub elements_are_labels : (c : Claim) → Monoid c.order c.times → AreLabels (λ x. x < c.order) 0 c.times
elements_are_labels c m = record {
  some = m.some;
  closed = m.closed;
  identity = m.identity;
  commutes = m.commutes;
  associates = m.associates;
}

module _ (heap : ℕ → Type 0) (c : Claim) (m : Monoid c.order c.times)
    (phi_in : GivesElements heap c) where
  pub value_in : (X : List ℕ) → IsPosition heap X → value c X < c.order
  value_in X p =
      subst (λ v. v < c.order) (value_is c X)
      (label_in (λ x. x < c.order) (over_elements c) (elements_are_labels c m) heap phi_in X p)

  pub value-append : (X Y : List ℕ) → IsPosition heap X → IsPosition heap Y
      → value c (X ++ Y) ≡ c.times (value c X) (value c Y)
  value-append X Y p q =
      sym (value_is c (X ++ Y))
      ∙ label-append (λ x. x < c.order) (over_elements c) (elements_are_labels c m) heap phi_in X Y p q
      ∙ ap₂ c.times (value_is c X) (value_is c Y)
