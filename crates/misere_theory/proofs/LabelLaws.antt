-- What a move does to a label, and when labels are the quotient.
use Rattle.std.proofs.Common.{◌≡◌, ℕ, ◌↔◌, true, List, ◌∷◌, ◌++◌, refl, sym, ◌∙◌, ap, subst}
use Rattle.std.specs.Cmp.{both_ways}
use Rattle.misere_theory.specs.Games.{HeapOption, Move, IsP, IsPosition, Indistinguishable}
use Rattle.misere_theory.specs.Games.Move.{Here, There}
use Rattle.misere_theory.specs.Parts.{IsPart}
use Rattle.misere_theory.specs.Labels.{LabelClaim, label_of, says_by, AreLabels, PredictsOutcomes, RepresentsBy}
use Rattle.misere_theory.proofs.Sums.{IsPosition-append, label_in, label-append}

module _
    {L : Type 0} (IsLabel : L → Type 0) (c : LabelClaim L) (m : AreLabels IsLabel c.one c.times)
    (heap : ℕ → Type 0) (labels : (n : ℕ) → heap n → IsLabel (c.label n)) where
  left_commutes : (x y z : L) → IsLabel x → IsLabel y → IsLabel z
      → c.times x (c.times y z) ≡ c.times y (c.times x z)
  left_commutes x y z p q r =
      sym (m.associates x y z p q r) ∙ ap (λ v. c.times v z) (m.commutes x y p q)
      ∙ m.associates y x z q p r

  -- a move replaces one heap, beside others, by an option of it
  module _ (code : List ℕ) (part : IsPart heap code) where
    pub record Split (X Y : List ℕ) : Type 0 where
      pub part_heap : ℕ
      pub in_part : heap part_heap
      pub left : List ℕ
      pub of_heap : HeapOption code part_heap left
      pub others : List ℕ
      pub others_in : IsPosition heap others
      pub from : label_of c X ≡ c.times (c.label part_heap) (label_of c others)
      pub to : label_of c Y ≡ c.times (label_of c left) (label_of c others)

    pub split : {X Y : List ℕ} → Move code X Y → IsPosition heap X → Split X Y
    split (Here {n = n} {X = X} {H = H} o e) p = record {
      part_heap = n;
      in_part = p.0;
      left = H;
      of_heap = o;
      others = X;
      others_in = p.1;
      from = refl;
      to = ap (label_of c) e ∙ label-append IsLabel c m heap labels H X (part n H p.0 o) p.1;
    }
    split (There {n = n} i e) p = let f = split i p.1 in record {
      part_heap = f.part_heap;
      in_part = f.in_part;
      left = f.left;
      of_heap = f.of_heap;
      others = n ∷ f.others;
      others_in = (p.0, f.others_in);
      from = ap (c.times (c.label n)) f.from
          ∙ left_commutes _ _ _ (labels n p.0) (labels f.part_heap f.in_part)
          (label_in IsLabel c m heap labels f.others f.others_in);
      to = ap (label_of c) e ∙ ap (c.times (c.label n)) f.to
          ∙ left_commutes _ _ _ (labels n p.0)
          (label_in IsLabel c m heap labels f.left (part f.part_heap f.left f.in_part f.of_heap))
          (label_in IsLabel c m heap labels f.others f.others_in);
    }

  -- Where outcomes are predicted, positions of one label are alike, and if labels that no label tells
  -- apart are equal, and each is a position's, then they are the quotient.
  module _ (code : List ℕ) (predicts : PredictsOutcomes heap code (says_by c)) where
    predicts_sum : (X Z : List ℕ) → IsPosition heap X → IsPosition heap Z
        → IsP code (X ++ Z) ↔ (c.portion (c.times (label_of c X) (label_of c Z)) ≡ true)
    predicts_sum X Z p q =
        subst (λ v. IsP code (X ++ Z) ↔ (c.portion v ≡ true)) (label-append IsLabel c m heap labels X Z p q)
        (predicts (X ++ Z) (IsPosition-append heap X Z p q))

    pub same_label_alike : (X Y : List ℕ) → IsPosition heap X → IsPosition heap Y
        → label_of c X ≡ label_of c Y → Indistinguishable heap code X Y
    same_label_alike X Y p q e Z r = (
      λ h. (predicts_sum Y Z q r).1 (ap (λ v. c.portion (c.times v (label_of c Z))) (sym e)
          ∙ (predicts_sum X Z p r).0 h),
      λ h. (predicts_sum X Z p r).1 (ap (λ v. c.portion (c.times v (label_of c Z))) e
          ∙ (predicts_sum Y Z q r).0 h),
    )

    pub alike_same_portion : (X Y : List ℕ) → IsPosition heap X → IsPosition heap Y
        → Indistinguishable heap code X Y → (Z : List ℕ) → IsPosition heap Z
        → c.portion (c.times (label_of c X) (label_of c Z))
        ≡ c.portion (c.times (label_of c Y) (label_of c Z))
    alike_same_portion X Y p q a Z r =
        both_ways _ _
        (λ t. (predicts_sum Y Z q r).0 ((a Z r).0 ((predicts_sum X Z p r).1 t)))
        (λ t. (predicts_sum X Z p r).0 ((a Z r).1 ((predicts_sum Y Z q r).1 t)))

    module _
        (reached : (x : L) → IsLabel x → (X : List ℕ) × IsPosition heap X × (label_of c X ≡ x))
        (reduced : (x y : L) → IsLabel x → IsLabel y
        → ((z : L) → IsLabel z → c.portion (c.times x z) ≡ c.portion (c.times y z)) → x ≡ y) where
      pub alike_same_label : (X Y : List ℕ) → IsPosition heap X → IsPosition heap Y
          → Indistinguishable heap code X Y → label_of c X ≡ label_of c Y
      alike_same_label X Y p q a =
          reduced (label_of c X) (label_of c Y) (label_in IsLabel c m heap labels X p) (label_in IsLabel c m heap labels Y q) (λ z l. let (Z, r, e) =
          reached z l in
          subst (λ v. c.portion (c.times (label_of c X) v) ≡ c.portion (c.times (label_of c Y) v)) e
          (alike_same_portion X Y p q a Z r))

      pub represents_by : RepresentsBy IsLabel heap code c
      represents_by = record {
        monoid = m;
        labels = labels;
        predicts = predicts;
        indistinguishable = λ X Y p q. (alike_same_label X Y p q, same_label_alike X Y p q);
        reached = reached;
      }
