use Rattle.std.proofs.Common.{◌≡◌, ◌<◌, ◌+◌, ◌-◌, ◌∙◌, List, ℕ, length, take, drop, subst, sym, ap, suc, add-one, arith}
use Rattle.positions.proofs.Words.{rest_is}
use Rattle.verdict_commands.proofs.FaultyWords.{IsPassed, all_passed, at_fault, first_passed, one_more}
use Rattle.verdict_commands.proofs.sizes.words_in.Goals as goal

pub loop-fault-init : goal.loop-fault-init
loop-fault-init c = first_passed c.args.text.now

pub returns-in-Some : goal.returns-in-Some
returns-in-Some c =
    at_fault c.args.text.now c.loop-fault.rest.now c.loop-fault.number c.word_len-end.result
    c.in-Some.fault c.loop-fault.invariant c.word_len-end.ensures.within
    c.word_len-end.ensures.before c.word_len-end.ensures.space c.in-Some.ensures

pub returns-then-end-rest : goal.returns-then-end-rest
returns-then-end-rest c =
    all_passed c.args.text.now c.loop-fault.rest.now c.loop-fault.number c.word_len-end.result
    c.loop-fault.invariant (omega arith) c.word_len-end.ensures.before c.in_default.ensures

pub loop-fault-preserved : goal.loop-fault-preserved
loop-fault-preserved c =
    let rest = c.loop-fault.rest.now in
    let end = c.word_len-end.result in
    let inside : end < length rest = let w = c.word_len-end.ensures.within in omega arith in
    let e : take (length rest - (end + 1)) (drop (end + 1) rest) ≡ drop (suc end) rest =
    rest_is rest (end + 1) (omega arith) ∙ ap (λ k. drop k rest) (add-one end) in
    subst (λ (r : List ℕ). IsPassed c.args.text.now r (c.loop-fault.number + 1)) (sym e)
    (one_more c.args.text.now rest c.loop-fault.number end c.loop-fault.invariant inside
    c.word_len-end.ensures.before (c.word_len-end.ensures.space inside) c.in_default.ensures)
