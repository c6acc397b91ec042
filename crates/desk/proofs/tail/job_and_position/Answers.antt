use Rattle.std.proofs.lemmas.Result.{err_from_is_err_and}
use Rattle.desk.proofs.Lines.{no_job_to_ask, no_position, same_fault}
use Rattle.desk.proofs.tail.job_and_position.Goals as goal

pub returns-in_default-job_of-clause-other : goal.returns-in_default-job_of-clause-other
returns-in_default-job_of-clause-other g c = λ e.
    no_job_to_ask c.args.tail.now c.in-Some.job.now c.in-Some.text.now c.in-Some.ensures.0
    c.in-Some.ensures.1 c.in_default-job_of.ensures

pub returns-in_err-position-clause-other : goal.returns-in_err-position-clause-other
returns-in_err-position-clause-other g c =
    let p = err_from_is_err_and c.from_residual.result c.from_residual.ensures.1 in
    rw (p.1, p.2)
    (λ e. no_position c.args.tail.now c.in-Some.job.now c.in-Some.text.now c.in-Some.ensures.0
    c.in-Some.ensures.1 (c.in_err-position.ensures.other (same_fault _ _ e)))
