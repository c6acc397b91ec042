use Rattle.kept_positions.proofs.Below.{below}
use Rattle.kept_positions.specs.Told.{IsTold}
use Rattle.kept_positions.proofs.telling.tell_class.Goals as goal

pub loop-y-preserved : goal.loop-y-preserved
loop-y-preserved g c =
    below (λ z. IsTold c.args.t.now c.args.marks.now c.args.x z) c.loop-y.y c.loop-y.invariant c.in_ok-tell_pair.ensures
