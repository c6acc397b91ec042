use Rattle.std.proofs.Common.{◌∙◌, ap, arith, rules, inl, inr}
use Rattle.pair_closure.specs.ClosureViews.{stopped}
use Rattle.pair_closure.proofs.Calls.{ended_ends, one_more, takes, takes_here, refused}
use Rattle.pair_closure.proofs.closure.Closure.take_turns.Goals as goal

pub loop-unit-preserved : goal.loop-unit-preserved
loop-unit-preserved g c =
    one_more c.loop-unit.invariant (c.in-Ok-true.ensures.left (search rules)) _
    c.in-Ok-true.ensures.ok

pub returns-in-Ok-false : goal.returns-in-Ok-false
returns-in-Ok-false g c = let h = c.in-Ok-false.ensures.last (search rules) in
    inl (takes_here ended_ends c.args.units c.loop-unit.invariant _ c.loop-unit-test.true
    c.in-Ok-false.ensures.ok h h)

pub returns-in-Err : goal.returns-in-Err
returns-in-Err g c =
    inr (refused ended_ends c.args.units c.loop-unit.invariant _ c.loop-unit-test.true
    (c.stop.ensures ∙ ap stopped c.in-Err.ensures.err) (c.in-Err.ensures.refused (search rules))
    (c.in-Err.ensures.keeps (search rules)))

pub returns : goal.returns
returns g c =
    inl (takes ended_ends c.args.units c.loop-unit.invariant
    (let a = c.loop-unit.auto in search rules)
    (λ k. let none = c.loop-unit-test.false in absurd (omega arith)))
