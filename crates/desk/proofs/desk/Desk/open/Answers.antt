use Rattle.std.proofs.Common.{sym, ◌∙◌, subst, List, Option, Some}
use Rattle.checker.specs.JobViews.{JobView}
use Rattle.desk.specs.Machine.{fresh}
use Rattle.desk.specs.Desks.{IsWith, NoneAsFarIn, jobs_in}
use Rattle.desk.proofs.Free.{least_of}
use Rattle.desk.proofs.Steps.{open_step, open_full, open_starved}
use Rattle.desk.proofs.desk.Desk.open.Goals as goal

pub returns-in_default : goal.returns-in_default
returns-in_default g c =
    open_full c.args.self.now c.args.self.now c.args.client c.args.bytes.items c.args.limit
    (least_of c.self.inside.places c.self.inside.cores.items c.args.self.now c.args.client
    c.self.invariant.0 c.self.view_is ∙ sym c.in_default.ensures)

pub returns-in-Ok : goal.returns-in-Ok
returns-in-Ok g c =
    let new = jobs_in c.open_at.new.places c.open_at.new.cores.items in
    let with =
    subst (λ (jobs : List (Option JobView)). IsWith jobs c.in-Some-place.place
    (Some (fresh c.args.bytes.items c.args.limit)) new) c.self.view_is c.in-Ok.ensures.ok in
    open_step c.args.self.now new c.args.client c.args.bytes.items c.args.limit c.in-Some.number
    c.in-Some-place.place (sym c.in-Some-place.ensures.value)
    (least_of c.self.inside.places c.self.inside.cores.items c.args.self.now c.args.client
    c.self.invariant.0 c.self.view_is ∙ sym c.in-Some.ensures) with

pub returns-in-Err : goal.returns-in-Err
returns-in-Err g c =
    let new = jobs_in c.open_at.new.places c.open_at.new.cores.items in
    let first =
    subst (λ (jobs : List (Option JobView)). NoneAsFarIn jobs c.args.bytes.items c.args.limit 0)
    c.self.view_is c.in-Err.ensures.first in
    open_starved c.args.self.now new c.args.client c.args.bytes.items c.args.limit c.in-Some.number
    (least_of c.self.inside.places c.self.inside.cores.items c.args.self.now c.args.client
    c.self.invariant.0 c.self.view_is ∙ sym c.in-Some.ensures) first
    (c.in-Err.ensures.err ∙ c.self.view_is)
