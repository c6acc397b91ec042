use Rattle.pair_closure.proofs.Calls.{cost_bound, cost_before, cost_after, cost_ends}
use Rattle.pair_closure.proofs.laws.closures_cost.Goals as goal

pub returns-clause-bound : goal.returns-clause-bound
returns-clause-bound c = cost_bound

pub returns-clause-before : goal.returns-clause-before
returns-clause-before c = cost_before

pub returns-clause-after : goal.returns-clause-after
returns-clause-after c = λ table heaps limit units l. (cost_after table heaps limit units l).0

pub returns-clause-ends : goal.returns-clause-ends
returns-clause-ends c = cost_ends
