use Rattle.std.proofs.Common.{rules}
use Rattle.checker.proofs.job.Job.work.Goals as goal

pub returns : goal.returns
returns g c = search rules
