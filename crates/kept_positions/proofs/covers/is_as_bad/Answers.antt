use Rattle.std.proofs.Common.{refl}
use Rattle.kept_positions.specs.Numbers.{IsBadWith, IsBadAt}
use Rattle.kept_positions.proofs.Below.{below}
use Rattle.kept_positions.proofs.covers.is_as_bad.Goals as goal

pub loop-x-preserved : goal.loop-x-preserved
loop-x-preserved g c = below (λ x. IsBadWith c.args.t.now c.args.k.now c.args.i c.args.g x → IsBadAt c.args.t.now c.args.k.now c.args.j x) c.loop-x.x c.loop-x.invariant (c.if-not-is_as_bad_at.ensures refl)
