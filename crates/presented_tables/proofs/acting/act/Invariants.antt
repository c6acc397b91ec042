use Rattle.presentations.proofs.VectorLaws.{partial}
use Rattle.presented_tables.specs.Elements.{Takes}
use Rattle.presented_tables.proofs.acting.act.Given as goal

abbrev pub invariant-loop-i : goal.invariant-loop-i
invariant-loop-i g l = Takes l.p l.e (partial l.word l.i 0) l.x l.y
