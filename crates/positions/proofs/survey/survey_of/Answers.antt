use Rattle.std.proofs.Common.{◌≡◌, ◌<◌, ◌+◌, ◌-◌, ◌∙◌, List, ℕ, length, take, drop, subst, sym, ap, suc, add-one, arith}
use Rattle.positions.proofs.Words.{IsSurveyed, surveyed_more, surveyed_all, not_surveyed, rest_is}
use Rattle.positions.proofs.survey.survey_of.Goals as goal

pub returns-in_default : goal.returns-in_default
returns-in_default c =
    not_surveyed c.args.text.now c.loop-size.rest.now c.loop-size.survey c.word_len-end.result
    c.loop-size.invariant c.word_len-end.ensures.within c.word_len-end.ensures.before
    c.word_len-end.ensures.space c.in_default.ensures

pub returns-then-end-rest : goal.returns-then-end-rest
returns-then-end-rest c =
    surveyed_all c.args.text.now c.loop-size.rest.now c.loop-size.survey c.note.new.self
    c.word_len-end.result c.in-Some.size c.loop-size.invariant (omega arith)
    c.word_len-end.ensures.before c.in-Some.ensures.0 c.in-Some.ensures.1 c.note.ensures

pub loop-size-preserved : goal.loop-size-preserved
loop-size-preserved c =
    let rest = c.loop-size.rest.now in
    let end = c.word_len-end.result in
    let inside : end < length rest = let w = c.word_len-end.ensures.within in omega arith in
    let e : take (length rest - (end + 1)) (drop (end + 1) rest) ≡ drop (suc end) rest =
    rest_is rest (end + 1) (omega arith) ∙ ap (λ k. drop k rest) (add-one end) in
    subst (λ (r : List ℕ). IsSurveyed c.args.text.now r c.note.new.self) (sym e)
    (surveyed_more c.args.text.now rest c.loop-size.survey c.note.new.self end c.in-Some.size
    c.loop-size.invariant inside c.word_len-end.ensures.before
    (c.word_len-end.ensures.space inside) c.in-Some.ensures.0 c.in-Some.ensures.1
    c.note.ensures)
