use Rattle.std.proofs.Common.{arith}
use Rattle.checker.proofs.ContextLemmas.{untold, told}
use Rattle.checker.proofs.contexts.least_apart.Goals as goal

pub returns-clause-below : goal.returns-clause-below
returns-clause-below g c = λ z b.
    let w = c.first_apart.ensures.within in
    let v = c.order.ensures.value in
    let r = c.requires in
    untold c.args.certificate.now c.args.contexts.now r.contexts c.args.x c.args.y z r.x_in r.y_in
    (omega arith) c.index-contexts-x.result c.index-contexts-y.result c.index-contexts-x.is
    c.index-contexts-y.is (c.first_apart.ensures.alike z b)

pub returns-clause-tells : goal.returns-clause-tells
returns-clause-tells g c = λ b.
    let v = c.order.ensures.value in
    let r = c.requires in
    told c.args.certificate.now c.args.contexts.now r.contexts c.args.x c.args.y
    c.first_apart.result r.x_in r.y_in b c.index-contexts-x.result c.index-contexts-y.result
    c.index-contexts-x.is c.index-contexts-y.is (c.first_apart.ensures.apart (omega arith))
