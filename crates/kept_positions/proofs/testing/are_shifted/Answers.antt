use Rattle.std.proofs.Common.{refl}
use Rattle.kept_positions.specs.Numbers.{IsShifted}
use Rattle.kept_positions.proofs.Below.{below}
use Rattle.kept_positions.proofs.testing.are_shifted.Goals as goal

pub loop-m-preserved : goal.loop-m-preserved
loop-m-preserved g c = below (λ m. IsShifted c.args.t.now c.args.k.now c.args.from c.args.start c.args.g m) c.loop-m.m c.loop-m.invariant (c.if-not-is_shifted.ensures refl)
