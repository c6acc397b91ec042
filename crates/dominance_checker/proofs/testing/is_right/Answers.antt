use Rattle.std.proofs.Common.{map}
use Rattle.std.specs.Prelude.{IsTrue}
use Rattle.dominance.specs.Finite.{HasSmallWins}
use Rattle.dominance.specs.Quotient.{ArePredicting}
use Rattle.dominance_checker.specs.Ranks.{label_by}
use Rattle.dominance_checker.specs.States.{state_in}
use Rattle.dominance_checker.specs.Passed.{extent_in, IsClaimTested}
use Rattle.dominance_checker.proofs.Claims.{tested_below}
use Rattle.dominance_checker.proofs.Results.{if_ok_more}
use Rattle.dominance_checker.proofs.testing.is_right.Goals as goal

pub returns-clause-right : goal.returns-clause-right
returns-clause-right g c =
    if_ok_more
    (λ b. IsTrue b → IsClaimTested c.args.code.now c.args.s c.args.ranks.now c.args.kinds.now
    c.args.kept.now c.args.e)
    (λ b. IsTrue b → ArePredicting c.args.code.now (label_by c.args.s c.args.ranks.now))
    c.is_tested.result
    (λ b t yes. c.finitely_many_tests_are_enough.ensures.predict c.args.code.now
    (label_by c.args.s c.args.ranks.now) (map state_in c.args.kinds.now)
    (map state_in c.args.kept.now) (extent_in c.args.s c.args.e)
    (tested_below c.args.code.now c.args.s c.args.ranks.now c.args.kinds.now c.args.kept.now c.args.e
    (c.options_are_exact.ensures.each c.args.code.now)
    (λ n most left. c.options_are_exact.ensures.only c.args.code.now n most left) (t yes)))
    c.is_tested.ensures

pub returns-clause-wins : goal.returns-clause-wins
returns-clause-wins g c =
    if_ok_more
    (λ b. IsTrue b → IsClaimTested c.args.code.now c.args.s c.args.ranks.now c.args.kinds.now
    c.args.kept.now c.args.e)
    (λ b. IsTrue b → HasSmallWins c.args.code.now c.args.s.start)
    c.is_tested.result
    (λ b t yes. c.finitely_many_tests_are_enough.ensures.wins c.args.code.now
    (label_by c.args.s c.args.ranks.now) (map state_in c.args.kinds.now)
    (map state_in c.args.kept.now) (extent_in c.args.s c.args.e)
    (tested_below c.args.code.now c.args.s c.args.ranks.now c.args.kinds.now c.args.kept.now c.args.e
    (c.options_are_exact.ensures.each c.args.code.now)
    (λ n most left. c.options_are_exact.ensures.only c.args.code.now n most left) (t yes)))
    c.is_tested.ensures
