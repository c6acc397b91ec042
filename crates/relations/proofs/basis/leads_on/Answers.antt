use Rattle.std.proofs.Common.{inl, inr, arith, subst, sym}
use Rattle.std.proofs.lemmas.Bool.{cases_eq}
use Rattle.relations.specs.Bases.{LeadsOn}
use Rattle.relations.proofs.basis.leads_on.Goals as goal

pub loop-i-preserved : goal.loop-i-preserved
loop-i-preserved c = λ k lt. elim (cases_eq k c.loop-i.i) [
  | inl same ↦
      subst (LeadsOn c.args.letters c.args.words.now c.args.relations.now c.args.word.now) (sym same)
      (c.leads_on_by.ensures c.if-not-leads_on_by.false)
  | inr other ↦ c.loop-i.invariant k (omega (arith, other))
]

pub returns : goal.returns
returns c = λ t k lt. c.loop-i.invariant k (omega (arith, lt, c.loop-i-test.false))
