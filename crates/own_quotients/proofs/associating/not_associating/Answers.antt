use Rattle.std.proofs.Common.{below_more}
use Rattle.own_quotients.proofs.associating.not_associating.Goals as goal

pub loop-y-preserved : goal.loop-y-preserved
loop-y-preserved g c = below_more _ _ c.loop-y.invariant c.in-None.ensures.none
