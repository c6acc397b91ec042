use Rattle.std.proofs.Common.{[], get_or, IfOk, IsTrue, ap, sym, subst}
use Rattle.std.specs.List.Sorted.{IsNonDecreasing}
use Rattle.misere_theory.specs.Plays.{MoreReachableThan}
use Rattle.outcome_search.proofs.reach.reaches_more.Goals as goal

pub list-requires-clause-rising : goal.list-requires-clause-rising
list-requires-clause-rising g c =
    subst IsNonDecreasing (sym (ap (λ r. get_or r 0 []) c.in_ok-reached.ensures.alone))
    c.in_ok-reached.ensures.rising

pub returns : goal.returns
returns g c =
    subst (λ X. IfOk c.list.result (λ more. IsTrue more
    → MoreReachableThan c.args.code.now X c.args.most))
    (ap (λ r. get_or r 0 []) c.in_ok-reached.ensures.alone) c.list.ensures
