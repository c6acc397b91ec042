use Rattle.presentations.specs.declared.TheConstants.{LETTERS}
use Rattle.presentations.specs.Vectors.{only}
use Rattle.presented_tables.specs.Elements.{Takes}
use Rattle.presented_tables.proofs.acting.power.Given as goal

abbrev pub invariant-loop : goal.invariant-loop
invariant-loop g l = Takes l.p l.e (only LETTERS l.i l.counter) l.x l.y
