use Rattle.std.proofs.Common.{refl, arith}
use Rattle.presented_tables.proofs.Below.{below}
use Rattle.class_tables.proofs.Listed.{IsListedWith}
use Rattle.class_tables.proofs.listing.is_listed_with_each.Goals as goal

pub loop-i-preserved : goal.loop-i-preserved
loop-i-preserved g c =
    below (IsListedWith c.args.p.now c.args.folds.now c.args.list.now c.args.word.now) c.loop-i.i c.loop-i.invariant
    (c.if-not-is_listed_with.ensures refl)

pub returns : goal.returns
returns g c = λ _ i h. c.loop-i.invariant i (grind arith)
