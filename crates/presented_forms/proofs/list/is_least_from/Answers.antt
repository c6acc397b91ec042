use Rattle.std.proofs.Common.{sym, subst, inl, inr, arith}
use Rattle.std.proofs.lemmas.Bool.{cases_eq}
use Rattle.presented_forms.specs.Only.{WordsRepeat}
use Rattle.presented_forms.proofs.list.is_least_from.Goals as goal

pub loop-more-preserved : goal.loop-more-preserved
loop-more-preserved g c = λ p some lt. elim (cases_eq p c.loop-more.more) [
  | inl here ↦
      subst (λ q. WordsRepeat c.args.text.now c.args.start q → ⊥) (sym here)
      (c.is_broken.ensures c.if-not-is_broken.false)
  | inr other ↦ c.loop-more.invariant p some (omega (arith, lt, other))
]
