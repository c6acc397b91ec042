use Rattle.std.proofs.Common.{arith}
use Rattle.misere_library.specs.Queries.{TellsAnswer}
use Rattle.player.proofs.Entries.{list_next, all_listed}
use Rattle.misere_library.proofs.many.all_answers.Goals as goal

pub loop-at-preserved : goal.loop-at-preserved
loop-at-preserved c =
    list_next TellsAnswer c.args.heaps.now c.args.ends.now c.args.certified.now c.loop-at.at c.loop-at.made.items
    c.push.new.self.items c.heaps_at.result.now c.in_ok-answer_of.field-0 c.loop-at.invariant
    c.in_ok-push.ensures.items c.heaps_at.ensures c.in_ok-answer_of.ensures

pub returns : goal.returns
returns c =
    all_listed TellsAnswer c.args.heaps.now c.args.ends.now c.args.certified.now c.loop-at.at c.loop-at.made.items
    (let f = c.loop-at-test.false in let e = c.loop-at.auto.at-end in omega arith) c.loop-at.invariant
