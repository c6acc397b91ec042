use Rattle.std.proofs.Common.{arith}
use Rattle.descriptions.proofs.Orders.{small, all-other}
use Rattle.descriptions.proofs.tame.exponent.Goals as goal

pub returns-clause-none : goal.returns-clause-none
returns-clause-none c =
    all-other c.args.order c.loop-n.n c.requires c.loop-n-test.false c.loop-n.invariant.others

pub overflow_mul-power : goal.overflow_mul-power
overflow_mul-power c =
    omega (arith, c.loop-n.invariant.power, small c.loop-n.n c.loop-n-test.true)
