use Rattle.std.proofs.Common.{sym, ◌∙◌, ap, subst, refl, List, Option, None}
use Rattle.checker.specs.JobViews.{JobView}
use Rattle.desk.specs.Desks.{IsWith, jobs_in, job_at}
use Rattle.desk.proofs.Free.{nothing_at, something_at}
use Rattle.desk.proofs.Steps.{drop_step, drop_nothing}
use Rattle.desk.proofs.desk.Desk.give_up.Goals as goal

pub returns-in_default : goal.returns-in_default
returns-in_default g c =
    drop_nothing c.args.self.now c.args.self.now c.args.client c.args.number
    (ap (job_at c.args.self.now) (sym c.in_default.ensures.value)) refl

pub returns-then-not-give_up_at : goal.returns-then-not-give_up_at
returns-then-not-give_up_at g c =
    drop_nothing c.args.self.now (jobs_in c.give_up_at.new.places c.give_up_at.new.cores.items)
    c.args.client c.args.number
    (nothing_at c.self.inside.places c.self.inside.cores.items c.args.self.now c.args.client
    c.args.number c.in-Some.place c.self.invariant.0 c.self.view_is
    (sym c.in-Some.ensures.value) c.if-not-give_up_at.ensures.free)
    (c.if-not-give_up_at.ensures.same refl ∙ c.self.view_is)

pub returns : goal.returns
returns g c =
    let new = jobs_in c.give_up_at.new.places c.give_up_at.new.cores.items in
    drop_step c.args.self.now new c.args.client c.args.number c.in-Some.place
    (sym c.in-Some.ensures.value)
    (something_at c.self.inside.places c.self.inside.cores.items c.args.self.now c.in-Some.place
    c.self.invariant.0 c.self.view_is c.if-not-give_up_at.ensures.free)
    (subst (λ (jobs : List (Option JobView)). IsWith jobs c.in-Some.place None new) c.self.view_is
    (c.if-not-give_up_at.ensures.jobs refl))
