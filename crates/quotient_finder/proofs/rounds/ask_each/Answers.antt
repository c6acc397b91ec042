use Rattle.std.proofs.Common.{arith, rules}
use Rattle.quotient_finder.specs.Turns.{HasWanted}
use Rattle.quotient_finder.proofs.RoundLemmas.{begun, box_stopped, box_found, box_went_on, box_passed}
use Rattle.quotient_finder.proofs.rounds.ask_each.Goals.{in-Drafted, in-Nothing}
use Rattle.quotient_finder.proofs.rounds.ask_each.Goals as goal

pub loop-proposer-init : goal.loop-proposer-init
loop-proposer-init g c = begun _ _ _ _

pub returns-in-Found-clause-round : goal.returns-in-Found-clause-round
returns-in-Found-clause-round g c =
    box_found _ _ _ _ _ c.loop-proposer.proposers c.loop-proposer.proposer-index
    c.loop-proposer.has_drafted c.loop-proposer.invariant
    (let e = c.loop-proposer.auto.proposers in let t = c.loop-proposer-test.true in omega arith)
    c.proposer-item.result c.ask.new.proposer _ c.in_ok-certified.ensures.turn _ c.in-Found.is

pub returns-in_err-certified-clause-memory : goal.returns-in_err-certified-clause-memory
returns-in_err-certified-clause-memory g c =
    let s =
    box_stopped _ _ _ _ _ c.loop-proposer.proposers c.loop-proposer.proposer-index
    c.loop-proposer.has_drafted c.loop-proposer.invariant
    (let e = c.loop-proposer.auto.proposers in let t = c.loop-proposer-test.true in omega arith)
    c.proposer-item.result c.ask.new.proposer (HasWanted c.args.members)
    c.in_err-certified.ensures.memory.1 in
    search rules

pub loop-proposer-preserved : goal.loop-proposer-preserved
loop-proposer-preserved g c =
    elim c.match-branch-2.branch [
      | in-Drafted w ↦
          box_went_on _ _ _ _ _ c.loop-proposer.proposers c.loop-proposer.proposer-index
          c.loop-proposer.has_drafted c.loop-proposer.invariant
          (let e = c.loop-proposer.auto.proposers in let t = c.loop-proposer-test.true in omega arith)
          c.proposer-item.result c.ask.new.proposer _ c.in_ok-certified.ensures.turn w.in-Drafted.is _
          w.has_drafted-is
      | in-Nothing w ↦
          box_passed _ _ _ _ _ c.loop-proposer.proposers c.loop-proposer.proposer-index
          c.loop-proposer.has_drafted c.loop-proposer.invariant
          (let e = c.loop-proposer.auto.proposers in let t = c.loop-proposer-test.true in omega arith)
          c.proposer-item.result c.ask.new.proposer _ c.in_ok-certified.ensures.turn w.in-Nothing.is _
          w.has_drafted-is
    ]
