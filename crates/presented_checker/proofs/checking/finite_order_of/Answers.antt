use Rattle.std.proofs.Common.{sym, subst}
use Rattle.std.proofs.lemmas.Result.{err_from_is_err_and}
use Rattle.presented_checker.specs.Refused.{HasOrder}
use Rattle.presented_checker.proofs.Accepted.{presents, order}
use Rattle.presented_checker.proofs.checking.finite_order_of.Goals as goal

pub returns-in_err-keep-clause-no : goal.returns-in_err-keep-clause-no
returns-in_err-keep-clause-no g c =
    let p = err_from_is_err_and c.from_residual-in_err-keep.result c.from_residual-in_err-keep.ensures.1 in
    rw (p.1, p.2) (c.in_err-keep.ensures.no c.args.said.now)

pub returns-in_err-tell-clause-no : goal.returns-in_err-tell-clause-no
returns-in_err-tell-clause-no g c =
    let p = err_from_is_err_and c.from_residual-in_err-tell.result c.from_residual-in_err-tell.ensures.1 in
    rw (p.1, p.2) (c.in_err-tell.ensures.no c.args.said.now)

pub returns-clause-yes : goal.returns-clause-yes
returns-clause-yes g c = (
  presents c.args.said.now c.in_ok-tables.tables c.requires.ranges c.requires.in_form
      c.in_ok-tables.ensures.tested c.in_ok-keep.ensures.kept c.in_ok-tell.ensures.told,
  subst (HasOrder c.args.said.now) (sym c.count.ensures)
      (order c.args.said.now c.in_ok-tables.tables c.in_ok-tables.ensures.tested c.in_ok-tell.ensures.told),
)
