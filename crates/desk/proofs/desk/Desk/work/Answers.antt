use Rattle.std.proofs.Common.{sym, ◌∙◌, List, Option, subst, get_or, None}
use Rattle.checker.specs.JobViews.{JobView}
use Rattle.desk.specs.Desks.{HaveWorked, jobs_in}
use Rattle.desk.proofs.Seen.{job_at_place}
use Rattle.desk.proofs.Steps.{work_step, work_nowhere}
use Rattle.desk.proofs.desk.Desk.work.Goals as goal

pub returns-in-Some : goal.returns-in-Some
returns-in-Some g c =
    let at = sym c.place.ensures.value ∙ c.in-Some.is in
    let places = c.self.inside.places in
    let cores = c.self.inside.cores.items in
    let old = c.args.self.now in
    let new = jobs_in c.work_at.new.places c.work_at.new.cores.items in
    let P : List (Option JobView) → Type 0 =
    λ jobs. HaveWorked jobs c.in-Some.place (get_or jobs c.in-Some.place None) c.args.units new
    in
    let Q : Option JobView → Type 0 =
    λ job. HaveWorked (jobs_in places cores) c.in-Some.place job c.args.units new in
    work_step old new c.args.client c.args.number c.args.units c.in-Some.place at
    (subst P c.self.view_is
    (subst Q (sym (job_at_place places cores c.in-Some.place)) c.work_at.ensures.worked))

pub returns-in_default : goal.returns-in_default
returns-in_default g c =
    work_nowhere c.args.self.now c.args.self.now c.args.client c.args.number c.args.units
    (sym c.place.ensures.value ∙ c.in_default.is)
