use Rattle.std.proofs.Common.{refl, arith, None}
use Rattle.desk.proofs.Emptied.{desk_emptied, jobs_emptied, stay_without, only_without, used_without, used_held}
use Rattle.desk.proofs.Few.{few_still}
use Rattle.desk.proofs.Gone.{core_within}
use Rattle.desk.proofs.Lists.{with_set}
use Rattle.desk.proofs.jobs.give_up_at.Goals as goal

pub put-requires : goal.put-requires
put-requires g c =
    let len = c.args.cores.now.ok in
    omega (
      arith,
      core_within c.args.places.now c.args.cores.now.items c.args.place c.in-Some.slot
          c.requires.desk c.in-Some.is,
    )

pub returns-then-not-is_held-clause-jobs : goal.returns-then-not-is_held-clause-jobs
returns-then-not-is_held-clause-jobs g c =
    let emptied = with_set c.args.places.now c.args.place None c.requires.place in
    let gone = c.put.ensures.placed in
    let free = c.if-not-is_held.ensures.none refl in
    λ yes. jobs_emptied _ _ _ _ _ c.requires.desk emptied (stay_without _ _ _ _ gone free)
    (only_without _ _ _ _ gone free)
    (used_without _ _ _ _ _ c.requires.desk c.in-Some.is emptied _ gone)

pub returns-else-not-is_held-clause-desk : goal.returns-else-not-is_held-clause-desk
returns-else-not-is_held-clause-desk g c =
    let emptied = with_set c.args.places.now c.args.place None c.requires.place in
    desk_emptied _ _ _ c.args.cores.now.items _ c.requires.desk emptied (λ j r at. refl) (λ k a at. at)
    (used_held _ _ _ _ _ c.requires.desk c.in-Some.is emptied (c.if-not-is_held.ensures.some refl))
    (few_still _ _ _ _ None c.requires.desk.few refl)

pub returns-else-not-is_held-clause-jobs : goal.returns-else-not-is_held-clause-jobs
returns-else-not-is_held-clause-jobs g c =
    let emptied = with_set c.args.places.now c.args.place None c.requires.place in
    λ yes. jobs_emptied _ _ _ c.args.cores.now.items _ c.requires.desk emptied (λ j r at. refl)
    (λ k a at. at)
    (used_held _ _ _ _ _ c.requires.desk c.in-Some.is emptied (c.if-not-is_held.ensures.some refl))
