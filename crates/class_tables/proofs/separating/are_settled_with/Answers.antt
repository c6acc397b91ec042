use Rattle.std.proofs.Common.{refl, arith}
use Rattle.presented_tables.proofs.Below.{below}
use Rattle.class_tables.proofs.Settled.{IsPairSettled}
use Rattle.class_tables.proofs.separating.are_settled_with.Goals as goal

pub loop-y-preserved : goal.loop-y-preserved
loop-y-preserved g c =
    below (IsPairSettled c.args.p.now c.args.l.now c.args.t.now c.args.bits.now c.args.weights.now c.args.x) c.loop-y.y
    c.loop-y.invariant (c.if-not-is_pair_settled.ensures refl)

pub returns : goal.returns
returns g c = λ _ few folds_few y h. c.loop-y.invariant y (grind arith) few folds_few
