use Rattle.checker.proofs.DueLemmas.{come_first}
use Rattle.checker.proofs.job.Job.again.Goals as goal

pub invariant_of-self : goal.invariant_of-self
invariant_of-self g c = rw c.set.ensures (come_first _ _)
