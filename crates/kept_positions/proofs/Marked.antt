-- If classes are told apart, so are their labels.
use Rattle.std.proofs.Common.{◌≡◌, ◌≢◌, suc, Bool, List, sym, ◌∙◌, inl, inr, arith}
use Rattle.misere_theory.specs.Labels.{LabelClaim}
use Rattle.kept_positions.specs.Telling.{AreToldOrLowered}
use Rattle.kept_positions.specs.Numbers.{LabelTables}
use Rattle.kept_positions.specs.Numbering.{Numbering}
use Rattle.kept_positions.specs.Told.{IsTold, AreTold}
use Rattle.kept_positions.specs.Marks.{AreMarksOf, AreAlone}
use native.Mathlib.Decide.{dec_le}

module _
    {L : Type 0} (IsLabel : L → Type 0) (c : LabelClaim L) (b : Numbering L) (t : LabelTables)
    (marks : List Bool) (d : AreMarksOf IsLabel c b t marks) where
  told_beside : (x y : L) → IsLabel x → IsLabel y → IsTold t marks (b.class x) (b.class y)
      → (z : L) × IsLabel z × (c.portion (c.times x z) ≢ c.portion (c.times y z))
  told_beside x y p q (w, w_in, differ) = (
    b.label w,
    d.labels w w_in,
    λ e. differ (d.marked x w p w_in ∙ e ∙ sym (d.marked y w q w_in)),
  )

  pub told_labels : AreAlone IsLabel b → AreTold t marks → AreToldOrLowered IsLabel c (λ _ _. 0)
  told_labels alone told x y p q = elim (dec_le (suc (b.class y)) (b.class x)) [
    | yes less ↦
        let (z, r, differ) = told_beside x y p q (told (b.class x) (b.class y) less (d.classes x p)) in
        inr (z, r, inl differ)
    | no most ↦ elim (dec_le (suc (b.class x)) (b.class y)) [
      | yes less ↦
          let (z, r, differ) = told_beside y x q p (told (b.class y) (b.class x) less (d.classes y q)) in
          inr (z, r, inl (λ e. differ (sym e)))
      | no least ↦ inl (alone x y p q (omega arith))
    ]
  ]
