use Rattle.std.proofs.Common.{◌≡◌, sym, ◌∙◌, ap, arith, Option}
use Rattle.answers.specs.ByteVerdicts.{ByteVerdict}
use Rattle.desk.specs.Machine.{work_reply}
use Rattle.desk.specs.Deeds.{shown_reply}
use Rattle.desk.specs.Desks.{job_in, slot_at}
use Rattle.desk.proofs.Ended.{ended_job}
use Rattle.desk.proofs.Gone.{core_within}
use Rattle.desk.proofs.jobs.show_at.Given.{Over}
use Rattle.desk.proofs.jobs.show_at.Goals as goal
use Rattle.desk.proofs.jobs.show_at.Goals.{After-progress}

pub index-requires : goal.index-requires
index-requires g c =
    let len = c.args.cores.now.ok in
    omega (
      arith,
      core_within c.args.places.now c.args.cores.now.items c.args.place c.in-Some.slot
          c.requires.desk c.in-Some.is,
    )

-- the reply to a job that has ended is what its core shows
replies : (g : Over) (c : goal.After-progress g) (a : Option ByteVerdict)
    → c.in-Some-index.core.ended ≡ a
    → work_reply a ≡ shown_reply (job_in c.args.cores.now.items (slot_at c.args.places.now c.args.place))
replies g c a shown =
    let job =
    ended_job _ _ _ _ c.in-Some-index.core _ c.requires.desk c.in-Some.is c.in-Ended.is
    (sym c.index.ensures ∙ c.in-Some-index.is) in
    sym (ap shown_reply job.1 ∙ ap work_reply (job.2 ∙ shown))

pub returns-in-Yes : goal.returns-in-Yes
returns-in-Yes g c =
    replies g (goal.at.returns-in-Yes g c).After-progress _ c.in-Yes.ensures.shown

pub returns-in-No : goal.returns-in-No
returns-in-No g c = replies g (goal.at.returns-in-No g c).After-progress _ c.in-No.ensures.shown

pub returns-in-Going-progress : goal.returns-in-Going-progress
returns-in-Going-progress g c =
    replies g (goal.at.returns-in-Going-progress g c).After-progress _
    c.in-Going-progress.ensures.shown
