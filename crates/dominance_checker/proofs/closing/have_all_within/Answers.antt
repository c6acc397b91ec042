use Rattle.std.proofs.Common.{rules, subst}
use Rattle.std.specs.List.{All}
use Rattle.std.proofs.lemmas.List.{take_all}
use Rattle.std.proofs.lemmas.List.Elements.{All-more}
use Rattle.dominance_checker.specs.States.{HasStatesWithin}
use Rattle.dominance_checker.proofs.closing.have_all_within.Goals as goal

pub loop-k-preserved : goal.loop-k-preserved
loop-k-preserved c =
    All-more (HasStatesWithin c.args.kinds.now c.args.kept.now) c.args.kept.now c.loop-k.k-index _ c.loop-k-test.true c.loop-k.invariant
    (c.has_all_within.ensures (search rules))

pub returns : goal.returns
returns c = λ _.
    subst (All (HasStatesWithin c.args.kinds.now c.args.kept.now)) (take_all c.loop-k.k-index c.args.kept.now c.loop-k-test.false) c.loop-k.invariant
