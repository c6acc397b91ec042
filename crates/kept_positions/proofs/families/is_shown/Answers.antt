use Rattle.std.proofs.Common.{refl}
use Rattle.kept_positions.specs.Numbers.{IsMarked, IsGoodClass}
use Rattle.kept_positions.proofs.Below.{below}
use Rattle.kept_positions.proofs.families.is_shown.Goals as goal

pub loop-x-preserved : goal.loop-x-preserved
loop-x-preserved g c = below (λ y. IsMarked c.args.marks.now y → IsGoodClass c.args.t.now c.args.u.now c.args.k.now c.args.i c.args.marks.now y) c.loop-x.x c.loop-x.invariant (c.if-not-is_good_class.ensures refl)
