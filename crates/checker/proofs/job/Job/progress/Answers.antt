use Rattle.std.proofs.Common.{subst}
use Rattle.checker.specs.JobViews.{IsTruthful}
use Rattle.checker.specs.Stages.{phase_of}
use Rattle.checker.proofs.DueLemmas.{come_true}
use Rattle.checker.proofs.job.Job.progress.Goals as goal

pub returns-in-Ended-Ok-clause-truthful : goal.returns-in-Ended-Ok-clause-truthful
returns-in-Ended-Ok-clause-truthful g c =
    let s = c.self.inside in
    let e = c.checks_end.ensures in
    subst IsTruthful c.self.view_is
    (come_true s.bytes.items s.limit (e.spent s.bytes.items s.limit) (e.before s.bytes.items s.limit)
    (c.verdicts_are_true.ensures s.bytes.items s.limit).0
    (c.true_answers.ensures s.bytes.items s.limit _ tt) s.spent (phase_of s.stage) c.self.invariant)

pub returns-in-Ended-Err-clause-truthful : goal.returns-in-Ended-Err-clause-truthful
returns-in-Ended-Err-clause-truthful g c =
    let s = c.self.inside in
    let e = c.checks_end.ensures in
    subst IsTruthful c.self.view_is
    (come_true s.bytes.items s.limit (e.spent s.bytes.items s.limit) (e.before s.bytes.items s.limit)
    (c.verdicts_are_true.ensures s.bytes.items s.limit).0
    (c.true_answers.ensures s.bytes.items s.limit _ tt) s.spent (phase_of s.stage) c.self.invariant)
