use Rattle.std.proofs.Common.{subst}
use Rattle.checker.specs.JobViews.{IsDue, IsBounded}
use Rattle.checker.specs.Stages.{phase_of}
use Rattle.checker.proofs.BoundedLemmas.{due_bounded}
use Rattle.checker.proofs.DueLemmas.{come_due}
use Rattle.checker.proofs.job.Job.spent.Goals as goal

pub returns-clause-due : goal.returns-clause-due
returns-clause-due g c =
    let j = c.self.inside in
    let e = c.checks_end.ensures in
    subst IsDue c.self.view_is
    (come_due j.bytes.items j.limit (e.spent j.bytes.items j.limit)
    (e.before j.bytes.items j.limit) j.spent (phase_of j.stage) c.self.invariant)

pub returns-clause-bounded : goal.returns-clause-bounded
returns-clause-bounded g c =
    let j = c.self.inside in
    let e = c.checks_end.ensures in
    let due =
    come_due j.bytes.items j.limit (e.spent j.bytes.items j.limit)
    (e.before j.bytes.items j.limit) j.spent (phase_of j.stage) c.self.invariant in
    subst IsBounded c.self.view_is (due_bounded _ (e.most j.bytes.items j.limit) due)
