use Rattle.desk.proofs.Lines.{no_job, no_units}
use Rattle.desk.proofs.tail.job_and_units.Goals as goal

pub returns-in_err-job-2 : goal.returns-in_err-job-2
returns-in_err-job-2 c =
    rw c.from_residual-in_err-job-2.ensures
    (no_job c.args.tail.now c.in_ok-job.job.now c.in_ok-job.units.now c.in_ok-job.ensures.0
    c.in_ok-job.ensures.1 c.in_err-job-2.ensures)

pub returns-in_err-units : goal.returns-in_err-units
returns-in_err-units c =
    rw c.from_residual-in_err-units.ensures
    (no_units c.args.tail.now c.in_ok-job.job.now c.in_ok-job.units.now c.in_ok-job.ensures.0
    c.in_ok-job.ensures.1 c.in_err-units.ensures.none)
