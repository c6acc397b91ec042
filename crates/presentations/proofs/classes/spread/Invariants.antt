use Rattle.presentations.specs.Merging.{Shrinks}
use Rattle.presentations.proofs.classes.spread.Given as goal

abbrev pub invariant-loop-turn : goal.invariant-loop-turn
invariant-loop-turn g l = Shrinks l.initial.merging l.merging
