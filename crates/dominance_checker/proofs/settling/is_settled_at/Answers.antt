use Rattle.std.proofs.Common.{rules, below_more}
use Rattle.dominance_checker.specs.States.{IsSettledWith}
use Rattle.dominance_checker.proofs.settling.is_settled_at.Goals as goal

pub loop-lead-preserved : goal.loop-lead-preserved
loop-lead-preserved c =
    below_more (λ m. IsSettledWith c.args.u c.args.sides.now c.args.k.now c.args.weight m)
    c.loop-lead.lead c.loop-lead.invariant (c.is_settled_with.ensures (search rules))
