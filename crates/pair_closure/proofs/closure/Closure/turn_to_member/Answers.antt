use Rattle.std.proofs.Common.{◌≡◌, ◌<◌, ◌∙◌, ap, arith, rules, length, inl, inr}
use Rattle.pair_closure.specs.ClosureViews.{stopped}
use Rattle.pair_closure.proofs.Calls.{kept_ends, goes_on, kept_since, ended_since, one_more, takes, takes_here, refused}
use Rattle.pair_closure.proofs.Taken.{more_after_step}
use Rattle.pair_closure.proofs.closure.Closure.turn_to_member.Goals as goal

pub loop-turn-preserved : goal.loop-turn-preserved
loop-turn-preserved g c =
    let i = c.loop-turn.invariant in
    let here = i.same in
    let most = more_after_step c.loop-turn.self c.take.new.self c.in-Ok-true.ensures.ok in
    record {
      so_far =
          one_more i.so_far
          (goes_on c.args.self.now c.loop-turn.self (c.in-Ok-true.ensures.left (search rules))
          (omega arith)) _
          c.in-Ok-true.ensures.ok;
      same = (let a = c.ever.ensures in let b = c.ever-ever.ensures in let l = c.if-ever.false in
          omega arith);
    }

pub returns-then-ever : goal.returns-then-ever
returns-then-ever g c =
    let i = c.loop-turn.invariant in
    let p = c.args.self.now in
    let here = i.same in
    let l = c.loop-turn-test.true in
    let more : length p.state.members < length c.seek.new.self.state.members =
    (let a = c.ever.ensures in let b = c.ever-ever.ensures in let l = c.if-ever.true in
    let s = ap (λ z. length z.state.members) c.seek.ensures in omega arith) in
    inl (takes (kept_ends p) c.args.units
    (one_more i.so_far
    (goes_on p c.loop-turn.self (c.in-Ok-true.ensures.left (search rules)) (omega arith)) _
    (c.seek.ensures ∙ c.in-Ok-true.ensures.ok)) (omega arith) (λ _. kept_since p c.seek.new.self more))

pub returns-in-Ok-false : goal.returns-in-Ok-false
returns-in-Ok-false g c =
    let p = c.args.self.now in
    let h = c.in-Ok-false.ensures.last (search rules) in
    inl (takes_here (kept_ends p) c.args.units c.loop-turn.invariant.so_far _
    c.loop-turn-test.true c.in-Ok-false.ensures.ok h (ended_since p c.loop-turn.self h))

pub returns-in-Err : goal.returns-in-Err
returns-in-Err g c =
    let p = c.args.self.now in
    let i = c.loop-turn.invariant in
    let here = i.same in
    inr (refused (kept_ends p) c.args.units i.so_far _ c.loop-turn-test.true
    (c.stop.ensures ∙ ap stopped c.in-Err.ensures.err)
    (goes_on p c.loop-turn.self (c.in-Err.ensures.refused (search rules)) (omega arith))
    (c.in-Err.ensures.keeps (search rules)))

pub returns : goal.returns
returns g c =
    inl (takes (kept_ends c.args.self.now) c.args.units c.loop-turn.invariant.so_far
    (let a = c.loop-turn.auto in search rules)
    (λ k. let none = c.loop-turn-test.false in absurd (omega arith)))
