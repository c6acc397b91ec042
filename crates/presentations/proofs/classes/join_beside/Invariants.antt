use Rattle.presentations.specs.Merging.{Shrinks}
use Rattle.presentations.proofs.classes.join_beside.Given as goal

abbrev pub invariant-loop-i : goal.invariant-loop-i
invariant-loop-i g l = Shrinks l.initial.merging l.merging
