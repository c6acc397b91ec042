use Rattle.outcome_search.specs.Reached.{AddsMoves}
use Rattle.outcome_search.proofs.reach.Reached.add_moves.Given as goal

abbrev pub invariant-loop-place : goal.invariant-loop-place
invariant-loop-place g l = AddsMoves l.code l.number l.fn.self l.self
