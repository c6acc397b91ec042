use Rattle.std.proofs.Common.{◌∙◌, ap}
use Rattle.descriptions.proofs.Tameness.{wild-by-order}
use Rattle.descriptions.proofs.indices.tame_index.Goals as goal

pub returns-then-is_none : goal.returns-then-is_none
returns-then-is_none c =
    wild-by-order c.args.certified.now c.order-order.result c.exponent.result
    (c.order-order.ensures.value ∙ ap (λ x. x.order) c.cert.ensures.same) c.if-order-ne2.true
    c.if-is_none.ensures c.exponent.ensures.none
