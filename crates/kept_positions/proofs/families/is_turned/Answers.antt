use Rattle.std.proofs.Common.{refl, arith}
use Rattle.kept_positions.specs.Numbers.{IsClosedBy}
use Rattle.kept_positions.proofs.Below.{below}
use Rattle.kept_positions.proofs.families.is_turned.Goals as goal

pub loop-g-preserved : goal.loop-g-preserved
loop-g-preserved g c = λ h lt. below (λ h. IsClosedBy c.args.t.now c.args.u.now c.args.k.now c.args.i c.args.marks.now c.args.x h) c.loop-g.g c.loop-g.invariant (c.if-not-is_turned_with.ensures refl) h lt

pub returns : goal.returns
returns g c = λ u h lt. c.loop-g.invariant h (grind arith)
