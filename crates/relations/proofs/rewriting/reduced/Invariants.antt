use Rattle.relations.specs.Presented.{AreRelatedWords}
use Rattle.relations.proofs.rewriting.reduced.Given as goal

abbrev pub invariant-loop-step : goal.invariant-loop-step
invariant-loop-step g l = AreRelatedWords l.letters l.rules.relations.items l.word l.reduced
