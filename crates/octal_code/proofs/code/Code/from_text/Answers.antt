use Rattle.std.proofs.Common.{◌≡◌, ◌-◌, length, subst, arith}
use Rattle.octal_code.proofs.Spelled.{IsFilled, filled_more, filled_all, filled_code}
use Rattle.octal_code.proofs.code.Code.from_text.Goals as goal

pub loop-i-preserved : goal.loop-i-preserved
loop-i-preserved c = let n = c.requires.short in
    filled_more c.args.text.now c.loop-i.digits c.loop-i.i c.digit_of-in-loop-i.result
    c.digit_of-in-loop-i.ensures (omega arith) (omega arith) (omega arith)
    c.loop-i.invariant

pub invariant_of-result : goal.invariant_of-result
invariant_of-result c =
    let over : c.loop-i.i ≡ length c.args.text.now - 1 = let some = c.requires.spelling.some in
    omega arith in
    filled_code c.args.text.now c.loop-i.digits c.requires.spelling c.requires.short
    (subst (IsFilled c.args.text.now c.loop-i.digits) over c.loop-i.invariant)

pub returns : goal.returns
returns c =
    let over : c.loop-i.i ≡ length c.args.text.now - 1 = let some = c.requires.spelling.some in
    omega arith in
    filled_all c.args.text.now c.loop-i.digits c.requires.spelling c.requires.short
    (subst (IsFilled c.args.text.now c.loop-i.digits) over c.loop-i.invariant)
