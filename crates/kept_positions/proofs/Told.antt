-- Labels that contexts tell apart, or take to others that are nearer to being told, are the quotient.
-- By induction on the height of two labels.
use Rattle.std.proofs.Common.{◌≡◌, ℕ, zero, suc, ◌<◌, List, sym, ◌∙◌, ap, inl, inr, arith}
use Rattle.misere_theory.specs.Games.{IsPosition}
use Rattle.misere_theory.specs.Labels.{LabelClaim, label_of, AreLabels, RepresentsBy}
use Rattle.misere_theory.proofs.LabelLaws.{represents_by}
use Rattle.kept_positions.specs.Telling.{AreToldOrLowered}
use Rattle.kept_positions.specs.Presented.{AreTestedLabels}
use Rattle.kept_positions.proofs.TestedLabels.{predicted}

module _
    {L : Type 0} (IsLabel : L → Type 0) (c : LabelClaim L) (m : AreLabels IsLabel c.one c.times)
    (height : L → L → ℕ) (told : AreToldOrLowered IsLabel c height) where
  -- beside each label both are in the portion, or neither is
  abbrev AreAlike : L → L → Type 0
  AreAlike x y = (z : L) → IsLabel z → c.portion (c.times x z) ≡ c.portion (c.times y z)

  alike_beside : (x y z : L) → IsLabel x → IsLabel y → IsLabel z → AreAlike x y
      → AreAlike (c.times x z) (c.times y z)
  alike_beside x y z p q r all w s =
      ap c.portion (m.associates x z w p r s) ∙ all (c.times z w) (m.closed z w r s)
      ∙ ap c.portion (sym (m.associates y z w q r s))

  same_below : (k : ℕ) (x y : L) → height x y < k → IsLabel x → IsLabel y → AreAlike x y → x ≡ y
  same_below zero x y h p q all = absurd (omega arith)
  same_below (suc k) x y h p q all = elim (told x y p q) [
    | inl e ↦ e
    | inr (z, r, inl differ) ↦ absurd (differ (all z r))
    | inr (z, r, inr (differ, less)) ↦ absurd
        (differ (same_below k (c.times x z) (c.times y z) (omega arith) (m.closed x z p r) (m.closed y z q r)
        (alike_beside x y z p q r all)))
  ]

  same : (x y : L) → IsLabel x → IsLabel y → AreAlike x y → x ≡ y
  same x y p q all = same_below (suc (height x y)) x y (omega arith) p q all

pub represented : {L : Type 0} (IsLabel : L → Type 0) (heap : ℕ → Type 0) (code : List ℕ) (c : LabelClaim L)
    (height : L → L → ℕ)
    → AreTestedLabels IsLabel heap code c
    → AreToldOrLowered IsLabel c height
    → ((x : L) → IsLabel x → (X : List ℕ) × IsPosition heap X × (label_of c X ≡ x))
    → RepresentsBy IsLabel heap code c
represented IsLabel heap code c height t told reached =
    represents_by IsLabel c t.monoid heap t.labels code (predicted IsLabel heap code c t) reached
    (same IsLabel c t.monoid height told)
