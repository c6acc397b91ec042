use Rattle.std.proofs.Common.{rules, subst}
use Rattle.std.specs.List.{All}
use Rattle.std.proofs.lemmas.List.{take_all}
use Rattle.std.proofs.lemmas.List.Elements.{All-more}
use Rattle.dominance_checker.specs.Passed.{IsSideApart}
use Rattle.dominance_checker.proofs.passing.are_sides_apart.Goals as goal

pub loop-v-preserved : goal.loop-v-preserved
loop-v-preserved c =
    All-more (IsSideApart c.args.u c.args.most) c.args.sides.now c.loop-v.v-index _ c.loop-v-test.true c.loop-v.invariant
    (c.is_side_apart.ensures (search rules))

pub returns : goal.returns
returns c = λ _.
    subst (All (IsSideApart c.args.u c.args.most)) (take_all c.loop-v.v-index c.args.sides.now c.loop-v-test.false) c.loop-v.invariant
