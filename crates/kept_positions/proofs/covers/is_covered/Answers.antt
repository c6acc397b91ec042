use Rattle.std.proofs.Common.{refl, arith}
use Rattle.kept_positions.specs.Numbers.{IsBadWith, IsCoveredAt}
use Rattle.kept_positions.proofs.Below.{below}
use Rattle.kept_positions.proofs.covers.is_covered.Goals as goal

pub loop-x-preserved : goal.loop-x-preserved
loop-x-preserved g c = below (λ x. IsBadWith c.args.t.now c.args.k.now c.args.i c.args.g x → IsCoveredAt c.args.t.now c.args.k.now c.args.i c.args.g x) c.loop-x.x c.loop-x.invariant (c.if-not-is_covered_at.ensures refl)

pub returns : goal.returns
returns g c = λ u x h. c.loop-x.invariant x (grind arith)
