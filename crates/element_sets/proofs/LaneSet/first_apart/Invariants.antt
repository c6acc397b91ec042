use Rattle.element_sets.proofs.ApartLaws.{Alike}
use Rattle.element_sets.proofs.LaneSet.first_apart.Given as goal

abbrev pub invariant-loop-i : goal.invariant-loop-i
invariant-loop-i g l = Alike l.self-inside.lanes l.other-inside.lanes l.i
