use Rattle.std.proofs.Common.{◌⊎◌, refl, arith}
use Rattle.kept_positions.specs.Numbers.{IsFree, IsClosedWith}
use Rattle.kept_positions.proofs.Below.{below}
use Rattle.kept_positions.proofs.testing.is_closed.Goals as goal

pub loop-g-preserved : goal.loop-g-preserved
loop-g-preserved g c = below (λ m. IsFree c.args.t.now c.args.k.now c.args.i m ⊎ IsClosedWith c.args.t.now c.args.k.now c.args.i m) c.loop-g.g c.loop-g.invariant (c.if-not-is_free_or_closed.ensures refl)

pub returns : goal.returns
returns g c = λ u m h. c.loop-g.invariant m (grind arith)
