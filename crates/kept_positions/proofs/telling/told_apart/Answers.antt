use Rattle.std.proofs.Common.{ℕ, ◌<◌}
use Rattle.kept_positions.proofs.Below.{below}
use Rattle.kept_positions.specs.Told.{IsTold}
use Rattle.kept_positions.proofs.telling.told_apart.Goals as goal

pub loop-x-preserved : goal.loop-x-preserved
loop-x-preserved g c = λ u v less h.
    below (λ u. (v : ℕ) → v < u → IsTold c.args.t.now c.args.marks.now u v) c.loop-x.x
    (λ u h v less. c.loop-x.invariant u v less h) c.in_ok-tell_class.ensures u h v less
