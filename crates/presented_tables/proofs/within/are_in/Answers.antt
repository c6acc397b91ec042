use Rattle.std.proofs.Common.{sym, subst, refl, arith}
use Rattle.std.proofs.lemmas.Bool.{false≢true}
use Rattle.normal_forms.specs.Forms.{IsIn}
use Rattle.relations.proofs.Each.{each-next}
use Rattle.presented_tables.proofs.within.are_in.Goals as goal

pub returns-then-not-is_rule_in : goal.returns-then-not-is_rule_in
returns-then-not-is_rule_in c = (
  λ t. absurd (false≢true t),
  λ are.
      c.if-not-is_rule_in.ensures.1
      (subst (λ r. IsIn c.args.letters r.0 × IsIn c.args.letters r.1) (sym c.index-rules-k.is)
      (are c.loop-k.k c.index-rules-k.result (omega (arith, c.loop-k-test.true)))),
)

pub loop-k-preserved : goal.loop-k-preserved
loop-k-preserved c =
    each-next (λ r. IsIn c.args.letters r.0 × IsIn c.args.letters r.1) c.args.rules.now c.loop-k.k
    c.index-rules-k.result (omega (arith, c.loop-k-test.true)) c.loop-k.invariant
    (subst (λ r. IsIn c.args.letters r.0 × IsIn c.args.letters r.1) c.index-rules-k.is
    (c.is_rule_in.ensures.0 c.if-not-is_rule_in.false))

pub returns : goal.returns
returns c = (λ _ k d lt. c.loop-k.invariant k d (omega (arith, lt, c.loop-k-test.false)), λ _. refl)
