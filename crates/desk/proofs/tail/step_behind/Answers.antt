use Rattle.std.proofs.lemmas.Result.{err_from_is_err_and}
use Rattle.desk.proofs.Lines.{no_ask, no_play, same_fault}
use Rattle.desk.proofs.tail.step_behind.Goals as goal

pub returns-in_err-job-in-ask-clause-other : goal.returns-in_err-job-in-ask-clause-other
returns-in_err-job-in-ask-clause-other g c =
    let p = err_from_is_err_and c.from_residual.result c.from_residual.ensures.1 in
    rw (p.1, p.2)
    (λ e. no_ask c.args.tail.now c.args.word.now c.in-ask.is
    (c.in_err-job-in-ask.ensures.other (same_fault _ _ e)))

pub returns-in_err-job-in-play-clause-other : goal.returns-in_err-job-in-play-clause-other
returns-in_err-job-in-play-clause-other g c =
    let p =
    err_from_is_err_and c.from_residual-in_err-job-in-play.result
    c.from_residual-in_err-job-in-play.ensures.1 in
    rw (p.1, p.2)
    (λ e. no_play c.args.tail.now c.args.word.now c.in-play.is
    (c.in_err-job-in-play.ensures.other (same_fault _ _ e)))
