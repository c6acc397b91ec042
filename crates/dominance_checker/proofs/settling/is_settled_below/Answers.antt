use Rattle.std.proofs.Common.{rules, below_more}
use Rattle.dominance_checker.specs.States.{IsSettledAt}
use Rattle.dominance_checker.proofs.settling.is_settled_below.Goals as goal

pub loop-weight-preserved : goal.loop-weight-preserved
loop-weight-preserved c =
    below_more (λ m. IsSettledAt c.args.u c.args.sides.now c.args.k.now m) c.loop-weight.weight
    c.loop-weight.invariant (c.is_settled_at.ensures (search rules))
