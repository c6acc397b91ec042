use Rattle.std.proofs.Common.{[], arith}
use Rattle.presentations.specs.declared.TheConstants.{LETTERS}
use Rattle.relations.specs.Bases.{Precedes}
use Rattle.presented_forms.proofs.Pairs.{pairs_next}
use Rattle.presented_forms.proofs.order.are_rising.Goals as goal

pub loop-k-preserved : goal.loop-k-preserved
loop-k-preserved c =
    pairs_next (Precedes LETTERS) c.args.words.now c.loop-k.k [] [] (omega (arith, c.loop-k-test.true))
    c.loop-k.invariant (c.comes_before.ensures c.if-not-comes_before.false)
