use Rattle.std.proofs.Common.{◌≡◌, false, take}
use Rattle.presentations.specs.Words.{occurs}
use Rattle.relations.proofs.checking.occurs.Given as goal

abbrev pub invariant-loop-relation : goal.invariant-loop-relation
invariant-loop-relation l = occurs (take l.relation-index l.relations) l.letter ≡ false
