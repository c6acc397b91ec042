use Rattle.outcome_search.proofs.Seen.{HasLooked}
use Rattle.outcome_search.proofs.look.look.Given as goal

abbrev pub invariant-loop-at : goal.invariant-loop-at
invariant-loop-at g l = HasLooked l.code l.position l.memo l.at l.can_move
