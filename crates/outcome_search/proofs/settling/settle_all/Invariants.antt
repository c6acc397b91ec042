use Rattle.std.proofs.Common.{◌+◌, ◌*◌, ◌-◌, [], get_or, length}
use Rattle.outcome_search.specs.Searching.{IsSearch}
use Rattle.outcome_search.proofs.settling.settle_all.Given as goal

abbrev pub invariant-loop-memo : goal.invariant-loop-memo
invariant-loop-memo g l =
    IsSearch l.code (get_or l.fn.waiting.items 0 []) l.budget l.memo l.waiting.items

abbrev pub decreases-loop-memo : goal.decreases-loop-memo
decreases-loop-memo g l = 2 * l.budget - (2 * length l.memo + length l.waiting.items)
