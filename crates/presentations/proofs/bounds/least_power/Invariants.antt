use Rattle.presentations.specs.Powers.{IsLeastPower}
use Rattle.presentations.proofs.bounds.least_power.Given as goal

abbrev pub invariant-loop-relation : goal.invariant-loop-relation
invariant-loop-relation l = IsLeastPower l.relations l.letter l.relation-index l.least
