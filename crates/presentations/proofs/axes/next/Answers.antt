use Rattle.std.proofs.Common.{◌+◌, ◌-◌, ◌*◌, ◌/◌, ◌%◌, ap, ◌∙◌, arith}
use Rattle.std.proofs.lemmas.Nat.{mod_below}
use Rattle.presentations.proofs.BoxLaws.{axis-in, next-by-code, next-below, no_axis, axis_or}
use Rattle.presentations.proofs.axes.next.Goals as goal

pub nonzero_div-exponent : goal.nonzero_div-exponent
nonzero_div-exponent c = (axis-in c.args.axes.now c.args.i c.requires.axes c.requires.i_in).0

pub nonzero_rem-exponent : goal.nonzero_rem-exponent
nonzero_rem-exponent c =
    omega (arith, (axis-in c.args.axes.now c.args.i c.requires.axes c.requires.i_in).1)

pub after-requires : goal.after-requires
after-requires c =
    mod_below _ _
    (omega (arith, (axis-in c.args.axes.now c.args.i c.requires.axes c.requires.i_in).1))

pub returns : goal.returns
returns c =
    let a = axis_or c.args.axes.now c.args.i no_axis in
    let value =
    ap (λ r. c.args.at - c.args.at / a.stride % a.most * a.stride + r * a.stride) c.after.ensures
    ∙ next-by-code c.args.axes.now c.args.i c.args.at c.requires.axes c.requires.i_in in
    let low = next-below 1 c.args.axes.now c.args.i c.args.at c.requires.axes c.requires.at_in in
    record { value = value; within = omega (arith, value, low) }

pub overflow_add-result : goal.overflow_add-result
overflow_add-result c = omega (arith, returns c, c.requires.small)

pub overflow_mul-result-2 : goal.overflow_mul-result-2
overflow_mul-result-2 c = omega (arith, returns c, c.requires.small)
