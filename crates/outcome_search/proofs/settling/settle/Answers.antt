use Rattle.std.proofs.Common.{◌≡◌, ℕ, [], List, ap, get_or, sym, subst, arith, IfOk, Err}
use Rattle.misere_theory.specs.Plays.{MoreReachableThan}
use Rattle.positions.specs.Outcomes.{HasOutcome}
use Rattle.outcome_search.specs.Searching.{IsSearch}
use Rattle.outcome_search.specs.Settled.{IsSettledBy}
use Rattle.outcome_search.specs.declared.fault.SearchFault.TheVariants.{Budget}
use Rattle.outcome_search.proofs.Found.{started, itself_reached}
use Rattle.outcome_search.proofs.settling.settle.Goals as goal

pub returns-then-budget-eq0-clause-budget : goal.returns-then-budget-eq0-clause-budget
returns-then-budget-eq0-clause-budget g c =
    λ e. subst (λ n. MoreReachableThan c.args.code.now c.args.position.now n)
    (sym c.if-budget-eq0.true) (itself_reached c.args.code.now c.args.position.now)

pub settle_all-requires : goal.settle_all-requires
settle_all-requires g c =
    let Starts : List (List ℕ) → Type 0 =
    λ w. IsSearch c.args.code.now (get_or w 0 []) c.args.budget [] w in
    subst (λ m. IsSearch c.args.code.now (get_or c.in_ok-waiting.waiting.items 0 []) c.args.budget m
    c.in_ok-waiting.waiting.items) (sym c.new-memo.ensures)
    (subst Starts (sym c.in_ok-waiting.ensures.alone)
    (started c.args.code.now c.args.position.now c.args.budget (omega arith)
    c.in_ok-waiting.ensures.rising))

pub returns-clause-answer : goal.returns-clause-answer
returns-clause-answer g c =
    subst (λ X. IfOk c.settle_all.result (HasOutcome c.args.code.now X))
    (ap (λ w. get_or w 0 []) c.in_ok-waiting.ensures.alone) c.settle_all.ensures.answer

pub returns-clause-within : goal.returns-clause-within
returns-clause-within g c =
    subst (λ X.
    IfOk c.settle_all.result (λ outcome. IsSettledBy c.args.code.now X outcome c.args.budget))
    (ap (λ w. get_or w 0 []) c.in_ok-waiting.ensures.alone) c.settle_all.ensures.within

pub returns-clause-budget : goal.returns-clause-budget
returns-clause-budget g c =
    subst (λ X. c.settle_all.result ≡ Err Budget
    → MoreReachableThan c.args.code.now X c.args.budget)
    (ap (λ w. get_or w 0 []) c.in_ok-waiting.ensures.alone) c.settle_all.ensures.budget
