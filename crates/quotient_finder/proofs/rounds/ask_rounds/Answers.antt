use Rattle.std.proofs.Common.{refl, inr, rules}
use Rattle.quotient_finder.specs.declared.gave_up.GaveUp.TheVariants.{Memory}
use Rattle.quotient_finder.proofs.RoundLemmas.{more, over, ended, broken, told_broken}
use Rattle.quotient_finder.proofs.rounds.ask_rounds.Goals as goal

pub loop-init : goal.loop-init
loop-init g c = refl

pub returns-in_err-certified-clause-searched : goal.returns-in_err-certified-clause-searched
returns-in_err-certified-clause-searched g c =
    told_broken _ _ _ _ _ _ _ Memory
    (broken _ _ _ _ _ _ _ _ c.loop-test.true c.loop.invariant c.in_err-certified.ensures.memory.1) refl
    (search rules)

pub returns-in-Found-clause-searched : goal.returns-in-Found-clause-searched
returns-in-Found-clause-searched g c =
    ended _ _ _ _ _ _ _ _ _ _ c.loop-test.true c.loop.invariant c.in_ok-certified.ensures.round
    c.in-Found.is

pub returns-in-Nothing-clause-searched : goal.returns-in-Nothing-clause-searched
returns-in-Nothing-clause-searched g c =
    inr (ended _ _ _ _ _ _ _ _ _ _ c.loop-test.true c.loop.invariant
    c.in_ok-certified.ensures.round c.in-Nothing.is)

pub loop-preserved : goal.loop-preserved
loop-preserved g c =
    more _ _ _ _ _ _ _ _ c.loop.invariant c.in_ok-certified.ensures.round c.in-Drafted.is

pub returns-clause-searched : goal.returns-clause-searched
returns-clause-searched g c =
    over _ _ _ _ _ _ _ c.loop.invariant c.loop.auto.counter-end c.loop-test.false
