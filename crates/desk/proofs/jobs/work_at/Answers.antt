use Rattle.std.proofs.Common.{sym, ◌∙◌, arith}
use Rattle.desk.proofs.Gone.{core_within, below_cost, is_sound, furthest_below, is_change, desk_gone, have_worked}
use Rattle.desk.proofs.jobs.work_at.Goals as goal

pub index_mut-requires : goal.index_mut-requires
index_mut-requires g c =
    let len = c.args.cores.now.ok in
    omega (
      arith,
      core_within c.args.places.now c.args.cores.now.items c.args.place c.in-Some.slot
          c.requires.desk c.in-Some.is,
    )

pub go_on-requires-clause-below : goal.go_on-requires-clause-below
go_on-requires-clause-below g c =
    below_cost _ _ _ _ _ _ c.requires.desk c.in-Some.is
    (sym c.index_mut.ensures.value ∙ c.in-Some-index_mut.is) c.in-Going.is

pub go_on-requires-clause-sound : goal.go_on-requires-clause-sound
go_on-requires-clause-sound g c =
    is_sound _ _ _ _ _ _ c.requires.desk c.in-Some.is
    (sym c.index_mut.ensures.value ∙ c.in-Some-index_mut.is)

pub go_on-requires-clause-furthest : goal.go_on-requires-clause-furthest
go_on-requires-clause-furthest g c =
    furthest_below _ _ _ _ _ _ c.requires.desk c.in-Some.is
    (sym c.index_mut.ensures.value ∙ c.in-Some-index_mut.is) c.furthest-most.result c.in-Going.is
    c.furthest-most.ensures

pub returns-in-Some-index_mut-clause-desk : goal.returns-in-Some-index_mut-clause-desk
returns-in-Some-index_mut-clause-desk g c =
    let change =
    is_change _ _ _ _ c.go_on.result _ c.go_on.new.core _ c.requires.desk c.in-Some.is
    (sym c.index_mut.ensures.value ∙ c.in-Some-index_mut.is) in
    desk_gone _ _ _ _ _ _ _ _ _ change _ _ c.go_on.ensures.gone

pub returns-in-Some-index_mut-clause-worked : goal.returns-in-Some-index_mut-clause-worked
returns-in-Some-index_mut-clause-worked g c =
    let change =
    is_change _ _ _ _ c.go_on.result _ c.go_on.new.core _ c.requires.desk c.in-Some.is
    (sym c.index_mut.ensures.value ∙ c.in-Some-index_mut.is) in
    have_worked _ _ _ _ _ _ _ _ _ change _ _ c.go_on.ensures.gone c.in-Going.is
    c.furthest-most.ensures
