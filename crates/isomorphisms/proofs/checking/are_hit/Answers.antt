use Rattle.std.proofs.Common.{refl, below_more}
use Rattle.isomorphisms.specs.Maps.{IsHit}
use Rattle.isomorphisms.proofs.checking.are_hit.Goals as goal

pub loop-y-preserved : goal.loop-y-preserved
loop-y-preserved c =
    below_more (IsHit c.args.map.now) c.loop-y.y c.loop-y.invariant (c.if-not-is_hit.ensures.0 refl)
