use Rattle.std.proofs.Common.{◌≡◌, arith, length}
use Rattle.presentations.proofs.PowerLaws.{least-next}
use Rattle.presentations.proofs.bounds.least_power.Goals as goal

pub loop-relation-preserved : goal.loop-relation-preserved
loop-relation-preserved c =
    rw c.lower-least.ensures
    (least-next c.args.relations.now c.args.letter c.loop-relation.relation-index _
    c.loop-relation-test.true c.loop-relation.least c.power_of.result c.loop-relation.invariant
    c.power_of.ensures.some c.power_of.ensures.none)

pub returns : goal.returns
returns c =
    let end : c.loop-relation.relation-index ≡ length c.args.relations.now = omega arith in
    rw end at c.loop-relation.invariant
