use Rattle.misere_library.specs.Questions.{TellsAsked}
use Rattle.player.proofs.Entries.{AreFilled}
use Rattle.misere_library.proofs.many.fill.Given as goal

abbrev pub invariant-loop-at : goal.invariant-loop-at
invariant-loop-at l = AreFilled (TellsAsked l.question) l.heaps l.ends l.certified l.at l.told
