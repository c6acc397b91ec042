use Rattle.checker.proofs.DueLemmas.{come_first}
use Rattle.checker.proofs.job.Job.open.Goals as goal

pub invariant_of-result : goal.invariant_of-result
invariant_of-result g c = come_first _ _
