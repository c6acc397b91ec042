use Rattle.std.proofs.Common.{refl, arith}
use Rattle.kept_positions.specs.Numbers.{IsFree}
use Rattle.kept_positions.proofs.Below.{below}
use Rattle.kept_positions.proofs.covers.is_as_free.Goals as goal

pub loop-h-preserved : goal.loop-h-preserved
loop-h-preserved g c = below (λ m. IsFree c.args.t.now c.args.k.now c.args.i m → IsFree c.args.t.now c.args.k.now c.args.j m) c.loop-h.h c.loop-h.invariant (c.if-not-is_as_free_with.ensures refl)

pub returns : goal.returns
returns g c = λ u m h. c.loop-h.invariant m (grind arith)
