use Rattle.std.proofs.Common.{arith}
use Rattle.misere_library.specs.Questions.{TellsAsked}
use Rattle.player.proofs.Entries.{fill_next, all_filled}
use Rattle.misere_library.proofs.many.fill.Goals as goal

pub loop-at-preserved : goal.loop-at-preserved
loop-at-preserved c =
    fill_next (TellsAsked c.args.question) c.args.heaps.now c.args.ends.now c.args.certified.now c.loop-at.at c.loop-at.told
    c.heaps_at.result.now c.number_at.result c.loop-at.invariant c.loop-at-test.true c.heaps_at.ensures c.number_at.ensures

pub returns : goal.returns
returns c =
    all_filled (TellsAsked c.args.question) c.args.heaps.now c.args.ends.now c.args.certified.now c.loop-at.at c.loop-at.told
    (let f = c.loop-at-test.false in omega arith) c.loop-at.invariant
