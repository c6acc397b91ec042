use Rattle.std.proofs.lemmas.List.{length-set}
use Rattle.desk.proofs.Filled.{none_first, desk_filled, jobs_filled}
use Rattle.desk.proofs.Lists.{on_err, with_set}
use Rattle.desk.proofs.jobs.open_at.Goals as goal

pub returns-in_err-core-clause-first : goal.returns-in_err-core-clause-first
returns-in_err-core-clause-first g c =
    on_err _ _ (none_first c.args.places.now c.args.cores.now.items c.args.bytes.items c.args.limit
    c.in_err-core.ensures.err.1)

pub returns-clause-desk : goal.returns-clause-desk
returns-clause-desk g c =
    desk_filled _ _ _ _ _ _ _ _ c.requires.desk c.in_ok-core.ensures.ok c.checks_end.ensures.some
    c.requires.free (with_set _ c.args.place _ c.requires.place) c.in_ok-core.ensures.grows
    (length-set c.args.places.now c.args.place _)

pub returns-clause-ok : goal.returns-clause-ok
returns-clause-ok g c =
    jobs_filled _ _ _ _ _ _ _ _ c.requires.desk c.in_ok-core.ensures.ok c.checks_end.ensures.some
    c.requires.free (with_set _ c.args.place _ c.requires.place)
