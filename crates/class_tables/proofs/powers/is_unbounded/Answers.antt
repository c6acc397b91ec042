use Rattle.std.proofs.Common.{refl, subst, arith}
use Rattle.relations.proofs.Each.{each-next}
use Rattle.class_tables.specs.Powers.{HasOther}
use Rattle.class_tables.proofs.powers.is_unbounded.Goals as goal

pub loop-k-preserved : goal.loop-k-preserved
loop-k-preserved c =
    each-next (λ r. HasOther c.args.i r.0) c.args.rules.now c.loop-k.k c.index-rules-k.result
    (omega (arith, c.loop-k-test.true)) c.loop-k.invariant
    (subst (λ r. HasOther c.args.i r.0) c.index-rules-k.is (c.if-not-is_free_of.ensures refl))

pub returns : goal.returns
returns c = λ _ k d lt. c.loop-k.invariant k d (omega (arith, lt, c.loop-k-test.false))
