use Rattle.infinite_queries.specs.Asked.{TellsAnswer}
use Rattle.player.proofs.Entries.{AreListed}
use Rattle.infinite_queries.proofs.many.all_answers.Given as goal

abbrev pub invariant-loop-at : goal.invariant-loop-at
invariant-loop-at l = AreListed TellsAnswer l.heaps l.ends l.shown l.at l.made.items
