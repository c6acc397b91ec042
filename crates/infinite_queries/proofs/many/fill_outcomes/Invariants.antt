use Rattle.infinite_queries.specs.Asked.{TellsOutcome}
use Rattle.player.proofs.Entries.{AreFilled}
use Rattle.infinite_queries.proofs.many.fill_outcomes.Given as goal

abbrev pub invariant-loop-at : goal.invariant-loop-at
invariant-loop-at l = AreFilled TellsOutcome l.heaps l.ends l.shown l.at l.told
