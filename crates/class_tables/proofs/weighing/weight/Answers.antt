use Rattle.std.proofs.Common.{◌*◌, ◌∙◌, ap, arith}
use Rattle.std.specs.Prelude.{slice_index}
use Rattle.class_tables.proofs.Indexed.{weight-next, weight-past}
use Rattle.class_tables.proofs.weighing.weight.Goals as goal

pub loop-i-preserved : goal.loop-i-preserved
loop-i-preserved c =
    let s = weight-next c.loop-i.i c.args.weights.now c.args.word.now (grind arith) in
    let more = c.in_ok-more.ensures.1 ∙ ap (λ w. w * slice_index c.args.word.now c.loop-i.i) c.weight_at.ensures in
    let sum = c.in_ok-sum.ensures.1 in
    omega (arith, s, c.loop-i.invariant, more, sum)

pub returns : goal.returns
returns c =
    let h = weight-past c.loop-i.i c.args.weights.now c.args.word.now (grind arith) in
    omega (arith, h, c.loop-i.invariant)
