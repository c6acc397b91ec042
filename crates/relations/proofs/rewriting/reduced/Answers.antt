use Rattle.presentations.specs.Congruences.Related.{Chained}
use Rattle.relations.proofs.Rewritings.{same-related}
use Rattle.relations.proofs.rewriting.reduced.Goals as goal

pub loop-step-init : goal.loop-step-init
loop-step-init g c = same-related c.args.letters c.args.rules.now.relations.items c.args.word.now

pub loop-step-preserved : goal.loop-step-preserved
loop-step-preserved g c =
    Chained _ _ _ c.loop-step.invariant c.in-Some.ensures
