-- No position of heaps with options is bad beside nothing, where positions are kept.
-- By induction on its weight: each part of a lightest bad one is kept, since it isn't covered.
use Rattle.std.proofs.Common.{◌≡◌, ℕ, zero, suc, ◌+◌, ◌<◌, ◌⊎◌, List, [], ◌∷◌, ◌++◌, refl, sym, subst, inl, inr, arith, append_assoc}
use Rattle.misere_theory.specs.Games.{IsPosition}
use Rattle.misere_theory.specs.Parts.{IsPart}
use Rattle.misere_theory.specs.Labels.{LabelClaim, label_of, AreLabels}
use Rattle.misere_theory.proofs.Sums.{IsPosition-append, label_in}
use Rattle.kept_positions.specs.Kept.{IsBadBeside, IsMovable, weight_by, IsCoveredBy, AreKept}
use Rattle.kept_positions.proofs.Bad.{bad_parts, bad_sum}

weight_by-append : (weight : ℕ → ℕ) (X Y : List ℕ)
    → weight_by weight (X ++ Y) ≡ weight_by weight X + weight_by weight Y
weight_by-append weight [] Y = omega arith
weight_by-append weight (n ∷ X) Y = omega (arith, weight_by-append weight X Y)

none_or_first : (X Y : List ℕ) → ((X ≡ []) × (Y ≡ [])) ⊎ ((n : ℕ) × (Z : List ℕ) × (X ++ Y ≡ n ∷ Z))
none_or_first [] [] = inl (refl, refl)
none_or_first [] (n ∷ Y) = inr (n, Y, refl)
none_or_first (n ∷ X) Y = inr (n, X ++ Y, refl)

pub last_part : (heap : ℕ → Type 0) (X Y : List ℕ) → IsPosition heap (X ++ Y) → IsPosition heap Y
last_part heap [] Y p = p
last_part heap (n ∷ X) Y p = last_part heap X Y p.1

pub first_part : (heap : ℕ → Type 0) (X Y : List ℕ) → IsPosition heap (X ++ Y) → IsPosition heap X
first_part heap [] Y p = tt
first_part heap (n ∷ X) Y p = (p.0, first_part heap X Y p.1)

pub all_heaps : (heap : ℕ → Type 0) (code : List ℕ) (X : List ℕ) → IsPosition (IsMovable heap code) X
    → IsPosition heap X
all_heaps heap code [] p = tt
all_heaps heap code (n ∷ X) p = (p.0.0, all_heaps heap code X p.1)

module _
    {L : Type 0} (IsLabel : L → Type 0) (c : LabelClaim L) (m : AreLabels IsLabel c.one c.times)
    (heap : ℕ → Type 0) (labels : (n : ℕ) → heap n → IsLabel (c.label n))
    (code : List ℕ) (part : IsPart heap code) (weight : ℕ → ℕ) (kept : List ℕ → Type 0)
    (keeps : AreKept IsLabel heap code c weight kept) where
  -- no position lighter than k, of at least one heap, is bad beside nothing
  abbrev NoneBelow : ℕ → Type 0
  NoneBelow k =
      (n : ℕ) (Z : List ℕ) → weight_by weight (n ∷ Z) < k → IsPosition (IsMovable heap code) (n ∷ Z)
      → IsBadBeside code c c.one (n ∷ Z) → ⊥

  -- a covered part makes a lighter one, so no part of a lightest one is covered
  none_covered : (k : ℕ) → NoneBelow k → (X Y : List ℕ) → weight_by weight (X ++ Y) < suc k
      → IsPosition (IsMovable heap code) (X ++ Y) → IsBadBeside code c c.one (X ++ Y)
      → IsCoveredBy IsLabel heap code c weight Y → ⊥
  none_covered k none X Y h p b covered =
      let movable = IsMovable heap code in
      let u = first_part movable X Y p in
      let pX = all_heaps heap code X u in
      let pY = all_heaps heap code Y (last_part movable X Y p) in
      let both = bad_parts IsLabel c m heap labels code part c.one X Y m.some pX pY b in
      let (V, v, e, less, bad, unless) =
      covered (c.times c.one (label_of c X)) (m.closed _ _ m.some (label_in IsLabel c m heap labels X pX))
      both.1 in
      let beside : IsBadBeside code c (c.times c.one (label_of c V)) X =
      subst (λ y. IsBadBeside code c (c.times c.one y) X) (sym e) both.0 in
      let sum = bad_sum IsLabel c m heap labels code part c.one X V m.some pX (all_heaps heap code V v) beside bad in
      let f = weight_by-append weight X Y in
      let g = weight_by-append weight X V in
      elim (none_or_first X V) [
        | inl (e, d) ↦ unless d (subst (λ S. IsBadBeside code c c.one (S ++ Y)) e b)
        | inr (n, Z, e) ↦
            none n Z (subst (λ S. weight_by weight S < k) e (omega arith))
            (subst (IsPosition movable) e (IsPosition-append movable X V u v))
            (subst (IsBadBeside code c c.one) e sum)
      ]

  -- so each last part of a lightest one is kept
  parts_kept : (k : ℕ) → NoneBelow k → (Y X : List ℕ) → weight_by weight (X ++ Y) < suc k
      → IsPosition (IsMovable heap code) (X ++ Y) → IsBadBeside code c c.one (X ++ Y) → kept Y
  parts_kept k none [] X h p b = keeps.nothing
  parts_kept k none (n ∷ Y) X h p b =
      let movable = IsMovable heap code in
      let e : (X ++ n ∷ []) ++ Y ≡ X ++ n ∷ Y = append_assoc X (n ∷ []) Y in
      let smaller : kept Y =
      parts_kept k none Y (X ++ n ∷ []) (subst (λ S. weight_by weight S < suc k) (sym e) h)
      (subst (IsPosition movable) (sym e) p) (subst (IsBadBeside code c c.one) (sym e) b) in
      elim (keeps.closed n Y (last_part movable X (n ∷ Y) p) smaller) [
        | inl in_kept ↦ in_kept
        | inr covered ↦ absurd (none_covered k none X (n ∷ Y) h p b covered)
      ]

  none_below : (k : ℕ) → NoneBelow k
  none_below zero n Z h p b = absurd (omega arith)
  none_below (suc k) n Z h p b = keeps.never_bad n Z p (parts_kept k (none_below k) (n ∷ Z) [] h p b) b

  pub none_is_bad : (n : ℕ) (Z : List ℕ) → IsPosition (IsMovable heap code) (n ∷ Z)
      → IsBadBeside code c c.one (n ∷ Z) → ⊥
  none_is_bad n Z p b = none_below (suc (weight_by weight (n ∷ Z))) n Z (omega arith) p b
