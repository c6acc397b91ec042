use Rattle.std.proofs.Common.{◌-◌, inl, inr, ◌∙◌, subst, arith}
use Rattle.std.specs.Prelude.{IsTrue}
use Rattle.std.specs.FinSet as set
use Rattle.normal_forms.proofs.RuleTables.{in-insert, in-none}
use Rattle.normal_forms.proofs.table.row_of.Goals.{then-has_more, else-has_more}
use Rattle.normal_forms.proofs.table.row_of.Goals as goal

pub loop-x-init : goal.loop-x-init
loop-x-init c = λ x inside.
    absurd (in-none x (subst (λ s. IsTrue (set.contains s x)) c.new-row.ensures inside))

pub loop-x-preserved : goal.loop-x-preserved
loop-x-preserved c = λ x inside.
    elim c.if-has_more.branch [
      | then-has_more w ↦
          elim (in-insert c.loop-x.row c.loop-x.x x
          (subst (λ s. IsTrue (set.contains s x)) (w.row-is ∙ w.insert.ensures.put (omega (arith, c.loop-x-test.true)))
          inside)) [
            | inl same ↦ rw same (c.has_more.ensures w.if-has_more.true)
            | inr old ↦ c.loop-x.invariant x old
          ]
      | else-has_more w ↦ c.loop-x.invariant x (subst (λ s. IsTrue (set.contains s x)) w.row-is inside)
    ]
