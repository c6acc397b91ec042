use Rattle.std.proofs.Common.{inl, inr, arith}
use Rattle.presented_forms.proofs.LastLetter.{last-one}
use Rattle.presented_forms.proofs.order.comes_earlier.Goals as goal

pub returns-then-i-k : goal.returns-then-i-k
returns-then-i-k c = λ t i k a b.
    let e = last-one c.args.v.now i c.in-Some.i a c.in-Some.ensures in
    let f = last-one c.args.w.now k c.in-Some-last_letter.k b c.in-Some-last_letter.ensures in
    inl (omega (arith, e, f, c.if-i-k.true))

pub returns-then-i-k-2 : goal.returns-then-i-k-2
returns-then-i-k-2 c = λ t i k a b.
    let e = last-one c.args.v.now i c.in-Some.i a c.in-Some.ensures in
    let f = last-one c.args.w.now k c.in-Some-last_letter.k b c.in-Some-last_letter.ensures in
    inr (omega (arith, e, f, c.if-i-k-2.true), c.comes_before.ensures t)
