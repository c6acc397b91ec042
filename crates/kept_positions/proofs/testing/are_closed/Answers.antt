use Rattle.std.proofs.Common.{ℕ, ◌<◌, ◌⊎◌, refl, arith}
use Rattle.kept_positions.specs.Numbers.{IsFree, IsClosedWith}
use Rattle.kept_positions.proofs.Below.{below}
use Rattle.kept_positions.proofs.testing.are_closed.Goals as goal

pub loop-i-preserved : goal.loop-i-preserved
loop-i-preserved g c = λ m s h. below (λ m. (s : ℕ) → s < c.args.t.now.heaps → IsFree c.args.t.now c.args.k.now m s ⊎ IsClosedWith c.args.t.now c.args.k.now m s) c.loop-i.i (λ m h s. c.loop-i.invariant m s h) (c.if-not-is_closed.ensures refl) m h s

pub returns : goal.returns
returns g c = λ u i s h. c.loop-i.invariant i s (grind arith)
