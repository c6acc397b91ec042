use Rattle.std.proofs.Common.{arith, sym}
use Rattle.std.proofs.lemmas.List.{take_more_same}
use Rattle.descriptions.proofs.Beside.{same-relation, same-word}
use Rattle.descriptions.proofs.presenting.begins.Goals as goal

pub loop-i-preserved : goal.loop-i-preserved
loop-i-preserved c =
    take_more_same c.args.all.now c.args.relations.now c.loop-i.i _
    (omega (arith, c.loop-i-test.true, c.if-relations-all.false)) c.loop-i-test.true
    c.loop-i.invariant (same-relation _ _ (sym (same-word _ _ (c.if-ne.ensures))) (sym (same-word _ _ (c.if-ne-2.ensures))))
