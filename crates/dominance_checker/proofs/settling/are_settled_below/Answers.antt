use Rattle.std.proofs.Common.{rules, subst}
use Rattle.std.specs.List.{All}
use Rattle.std.proofs.lemmas.List.{take_all}
use Rattle.std.proofs.lemmas.List.Elements.{All-more}
use Rattle.dominance_checker.specs.States.{IsSettledBelow}
use Rattle.dominance_checker.proofs.settling.are_settled_below.Goals as goal

pub loop-k-preserved : goal.loop-k-preserved
loop-k-preserved c =
    All-more (IsSettledBelow c.args.u c.args.sides.now c.args.end) c.args.kept.now c.loop-k.k-index _ c.loop-k-test.true c.loop-k.invariant
    (c.is_settled_below.ensures (search rules))

pub returns : goal.returns
returns c = λ _.
    subst (All (IsSettledBelow c.args.u c.args.sides.now c.args.end)) (take_all c.loop-k.k-index c.args.kept.now c.loop-k-test.false) c.loop-k.invariant
