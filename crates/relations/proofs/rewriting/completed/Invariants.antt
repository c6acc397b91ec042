use Rattle.relations.proofs.Rewritings.{Follow}
use Rattle.relations.proofs.rewriting.completed.Given as goal

abbrev pub invariant-loop-relation : goal.invariant-loop-relation
invariant-loop-relation g l = Follow l.letters l.relations l.rules.relations.items

abbrev pub invariant-loop-j : goal.invariant-loop-j
invariant-loop-j g l = Follow l.letters l.relations l.rules.relations.items
