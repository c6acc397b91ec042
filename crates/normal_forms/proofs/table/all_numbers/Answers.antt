use Rattle.std.proofs.Common.{inl, inr, sym, subst, arith}
use Rattle.std.specs.Prelude.{IsTrue}
use Rattle.std.specs.FinSet as set
use Rattle.std.proofs.lemmas.Bool.{cases_eq}
use Rattle.normal_forms.proofs.RuleTables.{insert-in}
use Rattle.normal_forms.proofs.table.all_numbers.Goals as goal

pub loop-x-preserved : goal.loop-x-preserved
loop-x-preserved c = λ y lt.
    subst (λ s. IsTrue (set.contains s y)) (sym (c.insert.ensures.put c.loop-x-test.true))
    (insert-in c.loop-x.all c.loop-x.x y (elim (cases_eq y c.loop-x.x) [
      | inl same ↦ inl same
      | inr other ↦ inr (c.loop-x.invariant y (omega (arith, lt, other)))
    ]))
