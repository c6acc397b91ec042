use Rattle.presentations.proofs.AxisLaws.{Built}
use Rattle.presentations.proofs.bounds.axes_of.Given as goal

abbrev pub invariant-loop-letter : goal.invariant-loop-letter
invariant-loop-letter g l = Built l.relations l.limit l.letter l.size l.axes.items
