use Rattle.misere_library.specs.Queries.{TellsAnswer}
use Rattle.player.proofs.Entries.{AreListed}
use Rattle.misere_library.proofs.many.all_answers.Given as goal

abbrev pub invariant-loop-at : goal.invariant-loop-at
invariant-loop-at l = AreListed TellsAnswer l.heaps l.ends l.certified l.at l.made.items
