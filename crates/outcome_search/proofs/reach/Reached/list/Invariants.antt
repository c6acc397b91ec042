use Rattle.std.proofs.Common.{All, [], get_or}
use Rattle.outcome_search.specs.Searching.{IsOnTheWay}
use Rattle.outcome_search.proofs.reach.Reached.list.Given as goal

abbrev pub invariant-loop-number : goal.invariant-loop-number
invariant-loop-number g l = All (IsOnTheWay l.code (get_or l.fn.self 0 [])) l.self
