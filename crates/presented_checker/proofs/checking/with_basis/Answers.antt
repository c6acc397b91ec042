use Rattle.std.proofs.lemmas.Result.{err_from_is_err_and}
use Rattle.presented_checker.proofs.checking.with_basis.Goals as goal

pub returns-in_err-basis-in-Ok-clause-no : goal.returns-in_err-basis-in-Ok-clause-no
returns-in_err-basis-in-Ok-clause-no g c =
    let p = err_from_is_err_and c.from_residual.result c.from_residual.ensures.1 in
    rw (p.1, p.2) (c.in_err-basis-in-Ok.ensures.no c.args.text)
