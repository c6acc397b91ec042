use Rattle.std.proofs.Common.{◌+◌, get_or, map, take, sym, subst}
use Rattle.std.proofs.lemmas.List.{get_or_default}
use Rattle.std.proofs.lemmas.Result.{err_from_is_err_and}
use Rattle.catalogue.specs.Files.{written}
use Rattle.catalogue.specs.Loads.{Stand}
use Rattle.catalogue.specs.LoadSteps.{IsFaultOrMemory}
use Rattle.catalogue.proofs.LoadLemmas.{blank, stand_push, written_more, loaded_fault}
use Rattle.catalogue.proofs.loading.catalogue_of.Goals as goal

pub returns-in_err-take : goal.returns-in_err-take
returns-in_err-take c bytes holds =
    let items = c.args.entries.now in
    let p = err_from_is_err_and c.from_residual.result c.from_residual.ensures.1 in
    let t = get_or items c.loop-at.at blank in
    rw p.1 (loaded_fault bytes c.args.limit items c.loop-at.at t c.loop-at.catalogue p.0
    holds c.loop-at-test.true (get_or_default items c.loop-at.at blank t c.loop-at-test.true)
    c.loop-at.invariant
    (subst (IsFaultOrMemory c.args.limit c.loop-at.catalogue (c.loop-at.at + 1) (written t))
    (sym p.2) c.in_err-take.ensures.fault))

pub loop-at-preserved : goal.loop-at-preserved
loop-at-preserved c =
    let items = c.args.entries.now in
    let t = get_or items c.loop-at.at blank in
    subst (λ es. Stand c.args.limit es c.take.new.self)
    (sym (written_more items c.loop-at.at t c.loop-at-test.true
    (get_or_default items c.loop-at.at blank t c.loop-at-test.true)))
    (stand_push c.args.limit (take c.loop-at.at (map written items)) c.loop-at.catalogue (written t)
    c.take.new.self c.loop-at.invariant c.in_ok-take.ensures.taken)
