use Rattle.std.proofs.Common.{arith}
use Rattle.infinite_queries.specs.Asked.{TellsOutcome}
use Rattle.player.proofs.Entries.{fill_next, all_filled}
use Rattle.infinite_queries.proofs.many.fill_outcomes.Goals as goal

pub loop-at-preserved : goal.loop-at-preserved
loop-at-preserved c =
    fill_next TellsOutcome c.args.heaps.now c.args.ends.now c.args.shown.now c.loop-at.at c.loop-at.told
    c.heaps_at.result.now c.outcome_of.result c.loop-at.invariant c.loop-at-test.true c.heaps_at.ensures c.outcome_of.ensures

pub returns : goal.returns
returns c =
    all_filled TellsOutcome c.args.heaps.now c.args.ends.now c.args.shown.now c.loop-at.at c.loop-at.told
    (let f = c.loop-at-test.false in omega arith) c.loop-at.invariant
