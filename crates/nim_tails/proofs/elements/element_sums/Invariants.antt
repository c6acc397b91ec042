use Rattle.nim_tails.proofs.TailSums.{AreSumsBelow}
use Rattle.nim_tails.proofs.elements.element_sums.Given as goal

abbrev pub invariant-loop-x : goal.invariant-loop-x
invariant-loop-x l = AreSumsBelow l.certified l.values l.sums.items l.x
