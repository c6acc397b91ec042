-- Heaps without an option may be left out, if their label is that of nothing.
use Rattle.std.proofs.Common.{◌≡◌, ℕ, ◌⊎◌, List, [], ◌∷◌, ◌++◌, refl, sym, ◌∙◌, ap, ap₂, subst, inl, inr}
use Rattle.misere_theory.specs.Games.{HeapOption, Move, IsPosition}
use Rattle.misere_theory.specs.Games.Move.{Here, There}
use Rattle.misere_theory.specs.Parts.{IsPart}
use Rattle.misere_theory.specs.Labels.{LabelClaim, label_of, AreLabels}
use Rattle.misere_theory.proofs.Sums.{first_or_rest, no_move_of_none, label_in}
use Rattle.misere_theory.proofs.Outcomes.{movable}
use Rattle.kept_positions.specs.Kept.{IsBadBeside, IsMovable}
use Rattle.kept_positions.proofs.NoneBad.{all_heaps}
use Rattle.kept_positions.proofs.Bad.{bad_parts, bad_sum}

option_or_none : (code : List ℕ) (n : ℕ)
    → ((H : List ℕ) × HeapOption code n H) ⊎ ((H : List ℕ) → HeapOption code n H → ⊥)
option_or_none code n = elim (movable code (n ∷ [])) [
  | inl (Y, i) ↦ elim (first_or_rest i) [
    | inl (H, o, e) ↦ inl (H, o)
    | inr (X, j, e) ↦ absurd (no_move_of_none j)
  ]
  | inr none ↦ inr (λ H o. none (H ++ []) (Here o refl))
]

module _
    {L : Type 0} (IsLabel : L → Type 0) (c : LabelClaim L) (m : AreLabels IsLabel c.one c.times)
    (heap : ℕ → Type 0) (labels : (n : ℕ) → heap n → IsLabel (c.label n))
    (code : List ℕ) (part : IsPart heap code)
    (idle : (n : ℕ) → heap n → ((H : List ℕ) → HeapOption code n H → ⊥) → c.label n ≡ c.one) where
  -- a position without a move has the label of nothing
  pub ended_label : (X : List ℕ) → IsPosition heap X → ((Y : List ℕ) → Move code X Y → ⊥)
      → label_of c X ≡ c.one
  ended_label [] p none = refl
  ended_label (n ∷ X) p none =
      ap₂ c.times (idle n p.0 (λ H o. none (H ++ X) (Here o refl)))
      (ended_label X p.1 (λ Y i. none (n ∷ Y) (There i refl)))
      ∙ m.identity c.one m.some

  -- the heaps with options of a position, bad beside a label as it is
  pub record Rest (x : L) (X : List ℕ) : Type 0 where
    pub rest : List ℕ
    pub in_rest : IsPosition (IsMovable heap code) rest
    pub same : label_of c rest ≡ label_of c X
    pub bad : IsBadBeside code c x rest
    pub some : (Y : List ℕ) → Move code X Y → (n : ℕ) × (Z : List ℕ) × (rest ≡ n ∷ Z)

  pub rest_of : (x : L) (X : List ℕ) → IsLabel x → IsPosition heap X → IsBadBeside code c x X → Rest x X
  rest_of x [] l p b =
      record { rest = []; in_rest = tt; same = refl; bad = b; some = λ Y i. absurd (no_move_of_none i) }
  rest_of x (n ∷ X) l p b =
      let one_heap : IsPosition heap (n ∷ []) = (p.0, tt) in
      let both = bad_parts IsLabel c m heap labels code part x (n ∷ []) X l one_heap p.1 b in
      let k = label_in IsLabel c m heap labels (n ∷ []) one_heap in
      elim (option_or_none code n) [
        | inl o ↦
            let r = rest_of (c.times x (label_of c (n ∷ []))) X (m.closed _ _ l k) p.1 both.1 in
            record {
              rest = n ∷ r.rest;
              in_rest = ((p.0, o), r.in_rest);
              same = ap (c.times (c.label n)) r.same;
              bad = bad_sum IsLabel c m heap labels code part x (n ∷ []) r.rest l one_heap
                  (all_heaps heap code r.rest r.in_rest)
                  (subst (λ y. IsBadBeside code c (c.times x y) (n ∷ [])) (sym r.same) both.0) r.bad;
              some = λ Y i. (n, r.rest, refl);
            }
        | inr none ↦
            let f : label_of c (n ∷ []) ≡ c.one =
            ap (λ y. c.times y c.one) (idle n p.0 none) ∙ m.identity c.one m.some in
            let e : c.times x (label_of c (n ∷ [])) ≡ x =
            ap (c.times x) f ∙ m.commutes _ _ l m.some ∙ m.identity x l in
            let r = rest_of x X l p.1 (subst (λ y. IsBadBeside code c y X) e both.1) in
            record {
              rest = r.rest;
              in_rest = r.in_rest;
              same = r.same ∙ sym (m.identity _ (label_in IsLabel c m heap labels X p.1))
                  ∙ ap (λ y. c.times y (label_of c X)) (sym (idle n p.0 none));
              bad = r.bad;
              some = λ Y i. elim (first_or_rest i) [
                | inl (H, o, g) ↦ absurd (none H o)
                | inr (U, j, g) ↦ r.some U j
              ];
            }
      ]
