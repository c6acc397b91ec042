use Rattle.transition_algebra.proofs.Finished.{cost_at_most, ends}
use Rattle.transition_algebra.proofs.Cost.{cost_long, cost_turned}
use Rattle.transition_algebra.proofs.laws.heap_jobs_end.Goals as goal

pub returns-clause-cost : goal.returns-clause-cost
returns-clause-cost g = cost_at_most

pub returns-clause-ends : goal.returns-clause-ends
returns-clause-ends g = ends

pub returns-clause-least : goal.returns-clause-least
returns-clause-least g = cost_long

pub returns-clause-turned : goal.returns-clause-turned
returns-clause-turned g = cost_turned
