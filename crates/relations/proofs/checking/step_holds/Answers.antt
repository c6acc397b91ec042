use Rattle.std.proofs.Common.{arith}
use Rattle.std.proofs.Common.{length}
use Rattle.relations.proofs.Shown.{step-shown}
use Rattle.relations.proofs.checking.step_holds.Goals as goal

pub returns : goal.returns
returns g c = λ t.
    step-shown (length c.args.elements.now) c.args.rules.now.relations.items c.args.words.now c.args.x
    c.times-product.result _ c.args.i _ _ c.in-Some.more c.reduced-left.result
    c.reduced-right.result (omega arith) (omega (arith, c.times-product.ensures.within))
    c.in-Some.ensures c.reduced-left.ensures c.reduced-right.ensures (c.is_same.ensures.0 t)
    c.times-product.ensures.value
