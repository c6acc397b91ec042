-- Where infinitely many labels are told apart, infinitely many positions are.
use Rattle.std.proofs.Common.{◌≡◌, ◌≢◌, ◌+◌, ℕ, Bool, zero, suc, ◌<◌, true, false, List, ◌++◌, length, inl, inr, sym, ◌∙◌, ap, arith}
use Rattle.std.proofs.lemmas.Bool.{true≢false}
use Rattle.std.specs.Prelude.{slice_index}
use Rattle.misere_theory.specs.Games.{IsP, IsN, IsPosition}
use Rattle.misere_theory.specs.Labels.{LabelClaim, label_of, says_by}
use Rattle.misere_theory.specs.Parts.{AreToldApart, IsInfinite}
use Rattle.misere_theory.proofs.Sums.{IsPosition-append, label_in, label-append}
use Rattle.misere_theory.proofs.Outcomes.{determined}
use Rattle.misere_theory.proofs.LocalRule.{true_or_false}
use Rattle.presentations.specs.declared.TheConstants.{LETTERS}
use Rattle.presentations.specs.Vectors.{only}
use Rattle.presentations.proofs.VectorLaws.{only-here}
use Rattle.normal_forms.proofs.Steps.{forms as forms_of}
use Rattle.kept_positions.specs.Presented.{AreTestedLabels}
use Rattle.kept_positions.specs.Telling.{AreToldOrLowered}
use Rattle.kept_positions.proofs.TestedLabels.{predicted}
use Rattle.presented_text.specs.Said.{PresentedSaid, IsInRanges}
use Rattle.presented_claims.specs.Claims.{IsElement, claim_of}
use Rattle.presented_forms.specs.Form.{IsInForm}
use Rattle.presented_tables.specs.Tested.{HasWord}
use Rattle.presented_claims.specs.Led.{weight_of}
use Rattle.presented_checker.specs.Endless.{IsEndless, HaveKept, HaveSettled}
use Rattle.presented_checker.proofs.AcceptedByClasses.{tested_labels, each_reached}

module _
    {L : Type 0} (IsLabel : L → Type 0) (heap : ℕ → Type 0) (code : List ℕ) (c : LabelClaim L)
    (height : L → L → ℕ) (t : AreTestedLabels IsLabel heap code c) (told : AreToldOrLowered IsLabel c height) where
  -- beside z just one of the two is in the portion
  abbrev HasContext : L → L → Type 0
  HasContext x y = (z : L) × IsLabel z × (c.portion (c.times x z) ≢ c.portion (c.times y z))

  context_below : (k : ℕ) (x y : L) → height x y < k → IsLabel x → IsLabel y → x ≢ y → HasContext x y
  context_below zero x y h p q other = absurd (omega arith)
  context_below (suc k) x y h p q other = elim (told x y p q) [
    | inl e ↦ absurd (other e)
    | inr (z, r, inl differ) ↦ (z, r, differ)
    | inr (z, r, inr (differ, less)) ↦
        let m = t.monoid in
        let (w, s, far) =
        context_below k (c.times x z) (c.times y z) (omega arith) (m.closed x z p r) (m.closed y z q r) differ in (
          c.times z w,
          m.closed z w r s,
          λ e. far (ap c.portion (m.associates x z w p r s) ∙ e ∙ ap c.portion (sym (m.associates y z w q r s))),
        )
  ]

  context : (x y : L) → IsLabel x → IsLabel y → x ≢ y → HasContext x y
  context x y = context_below (suc (height x y)) x y (omega arith)

  says_sum : (X Z : List ℕ) → IsPosition heap X → IsPosition heap Z
      → says_by c (X ++ Z) ≡ c.portion (c.times (label_of c X) (label_of c Z))
  says_sum X Z p r = ap c.portion (label-append IsLabel c t.monoid heap t.labels X Z p r)

  -- the position is P, or N, as the claim says
  is_p : (X : List ℕ) → IsPosition heap X → says_by c X ≡ true → IsP code X
  is_p X p e = (predicted IsLabel heap code c t X p).1 e

  is_n : (X : List ℕ) → IsPosition heap X → says_by c X ≡ false → IsN code X
  is_n X p e = elim (determined code X) [
    | inl some ↦ absurd (true≢false (sym ((predicted IsLabel heap code c t X p).0 some) ∙ e))
    | inr none ↦ none
  ]

  module _ (X Y Z : List ℕ) (p : IsPosition heap X) (q : IsPosition heap Y) (r : IsPosition heap Z)
      (differ : c.portion (c.times (label_of c X) (label_of c Z)) ≢ c.portion (c.times (label_of c Y) (label_of c Z)))
    where
      in_x : IsPosition heap (X ++ Z)
      in_x = IsPosition-append heap X Z p r

      in_y : IsPosition heap (Y ++ Z)
      in_y = IsPosition-append heap Y Z q r

      unlike : (b : Bool) → says_by c (X ++ Z) ≡ b → says_by c (Y ++ Z) ≡ b → ⊥
      unlike b x y = differ (sym (says_sum X Z p r) ∙ x ∙ sym y ∙ says_sum Y Z q r)

      told_beside : AreToldApart heap code X Y
      told_beside = (
        Z,
        r,
        elim (true_or_false (says_by c (X ++ Z))) [
          | inl x ↦ elim (true_or_false (says_by c (Y ++ Z))) [
            | inl y ↦ absurd (unlike true x y)
            | inr y ↦ inl (is_p (X ++ Z) in_x x, is_n (Y ++ Z) in_y y)
          ]
          | inr x ↦ elim (true_or_false (says_by c (Y ++ Z))) [
            | inl y ↦ inr (is_n (X ++ Z) in_x x, is_p (Y ++ Z) in_y y)
            | inr y ↦ absurd (unlike false x y)
          ]
        ],
      )

  told_positions : ((x : L) → IsLabel x → (X : List ℕ) × IsPosition heap X × (label_of c X ≡ x))
      → (X Y : List ℕ) → IsPosition heap X → IsPosition heap Y → label_of c X ≢ label_of c Y
      → AreToldApart heap code X Y
  told_positions reached X Y p q other =
      let in_label = label_in IsLabel c t.monoid heap t.labels in
      let (z, s, differ) = context (label_of c X) (label_of c Y) (in_label X p) (in_label Y q) other in
      let (Z, r, e) = reached z s in
      told_beside X Y Z p q r
      (λ same. differ
      (ap (λ v. c.portion (c.times (label_of c X) v)) (sym e) ∙ same
      ∙ ap (λ v. c.portion (c.times (label_of c Y) v)) e))

-- powers of one letter are different words
powers_differ : (i m n : ℕ) → i < LETTERS → m < n → only LETTERS i m ≢ only LETTERS i n
powers_differ i m n lt less same =
    let e = ap (λ w. slice_index w i) same in
    omega (arith, less, e, only-here LETTERS i m lt, only-here LETTERS i n lt)

-- the positions of the powers of a letter are pairwise told apart
pub infinite : (c : PresentedSaid) → IsInRanges c → IsInForm c → HaveKept c → HaveSettled c → IsEndless c
    → IsInfinite (HasWord c) c.code
infinite c ranges in_form keeping settling (i, lt, elements) =
    let (k, kept) = keeping.kept in
    let (weights, settled) = settling.settled in
    let forms = forms_of LETTERS c.relations keeping.tested.converges.oriented in
    let claim = claim_of c forms in
    let every = each_reached c ranges in_form keeping.tested.converges forms in
    let at = λ (n : ℕ). every (only LETTERS i n) (elements n) in (
      λ n. (at n).0,
      λ n. (at n).1,
      λ m n less.
          told_positions (IsElement c) (HasWord c) c.code claim
          (λ x y. weight_of weights x + weight_of weights y)
          (tested_labels c keeping.tables keeping.tested k kept forms) (settling.tested.told forms weights settled)
          every (at m).0 (at n).0 (at m).1 (at n).1
          (λ same. powers_differ i m n (omega (arith, lt, ranges.letters.0)) less
          (sym (at m).2 ∙ same ∙ (at n).2)),
    )
