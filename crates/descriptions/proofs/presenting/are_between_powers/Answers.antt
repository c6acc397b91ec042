use Rattle.std.proofs.Common.{[]}
use Rattle.relations.proofs.Each.{each-next}
use Rattle.descriptions.specs.Described.{IsBetweenPowers}
use Rattle.descriptions.proofs.presenting.are_between_powers.Goals as goal

pub loop-relation-preserved : goal.loop-relation-preserved
loop-relation-preserved c =
    each-next IsBetweenPowers c.args.relations.now c.loop-relation.relation-index
    (record { left = []; right = [] }) c.loop-relation-test.true c.loop-relation.invariant
    (c.is_between_powers.ensures c.if-not-is_between_powers.false)
