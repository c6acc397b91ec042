use Rattle.std.proofs.Common.{sym, subst}
use Rattle.std.proofs.lemmas.Result.{err_from_is_err_and}
use Rattle.catalogue.specs.Files.{written}
use Rattle.catalogue.specs.LoadSteps.{IsFaultOrMemory}
use Rattle.catalogue.proofs.store.Catalogue.take.Goals as goal

pub returns-in_err-certified-clause-fault : goal.returns-in_err-certified-clause-fault
returns-in_err-certified-clause-fault c =
    let p = err_from_is_err_and c.from_residual.result c.from_residual.ensures.1 in
    rw p.1
    (subst
    (IsFaultOrMemory c.args.limit c.args.self.now c.args.place (written c.args.entry.now))
    (sym p.2) (c.in_err-certified.ensures.err c.args.self.now))
