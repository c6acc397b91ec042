use Rattle.std.proofs.Common.{arith}
use Rattle.presentations.proofs.RowLaws.{rows-more, rows-all}
use Rattle.presentations.proofs.named.rows_of.Goals as goal

pub loop-e-preserved : goal.loop-e-preserved
loop-e-preserved g c =
    let rows = c.order-order.ensures.value in
    rw c.in_ok-push.ensures.items
    (rows-more c.product_of.result c.requires c.loop-e.invariant (omega arith)
    c.product_of.ensures.within c.product_of.ensures.first
    (rw c.deref.ensures.value at c.product_of.ensures.later))

pub returns-clause-rows : goal.returns-clause-rows
returns-clause-rows g c = rows-all c.loop-x.invariant (omega arith)
