use Rattle.std.proofs.Common.{arith}
use Rattle.check_machine.proofs.BoundLaws.{bound_within, fewer_within}
use Rattle.check_machine.proofs.FallLemmas.{falls, few_of, bound_is_few, cost_most, cost_ends, spent_is, within_bound, spent_before, yes_costs, closures_fewer, reads_ranged}
use Rattle.check_machine.proofs.CostLaws.{some_cost}
use Rattle.check_machine.proofs.turns.checks_end.Goals as goal

pub returns-clause-falls : goal.returns-clause-falls
returns-clause-falls c = λ bytes limit p s e.
    let f = falls bytes limit (reads_ranged c.reading_is_spelling.ensures.writable) c.heap_jobs_end.ensures.cost
    (closures_fewer c.closures_cost.ensures.bound c.closures_cost.ensures.ends) p s e in
    (f.1, f.0)

pub returns-clause-most : goal.returns-clause-most
returns-clause-most c =
    λ bytes limit. fewer_within bytes limit _ _
    (cost_most bytes limit (reads_ranged c.reading_is_spelling.ensures.writable) c.heap_jobs_end.ensures.cost
    (closures_fewer c.closures_cost.ensures.bound c.closures_cost.ensures.ends))
    (bound_within bytes limit c.reading_is_spelling.ensures.takes
    c.reading_is_spelling.ensures.again)

pub returns-clause-ends : goal.returns-clause-ends
returns-clause-ends c =
    λ bytes limit. cost_ends bytes limit (reads_ranged c.reading_is_spelling.ensures.writable)
    c.heap_jobs_end.ensures.cost
    (closures_fewer c.closures_cost.ensures.bound c.closures_cost.ensures.ends)

pub returns-clause-spent : goal.returns-clause-spent
returns-clause-spent c =
    λ bytes limit n p. spent_is bytes limit (reads_ranged c.reading_is_spelling.ensures.writable)
    c.heap_jobs_end.ensures.cost
    (closures_fewer c.closures_cost.ensures.bound c.closures_cost.ensures.ends) n p

pub returns-clause-few : goal.returns-clause-few
returns-clause-few c =
    λ bytes limit l.
    let few = bound_is_few bytes limit (reads_ranged c.reading_is_spelling.ensures.writable) l in
    let most =
    cost_most bytes limit (reads_ranged c.reading_is_spelling.ensures.writable) c.heap_jobs_end.ensures.cost
    (closures_fewer c.closures_cost.ensures.bound c.closures_cost.ensures.ends) in
    omega arith

pub returns-clause-small : goal.returns-clause-small
returns-clause-small c = λ limit d l r. few_of limit d r l

pub returns-clause-within : goal.returns-clause-within
returns-clause-within c =
    λ bytes limit n p r. fewer_within bytes limit _ _
    (within_bound bytes limit (reads_ranged c.reading_is_spelling.ensures.writable) c.heap_jobs_end.ensures.cost
    (closures_fewer c.closures_cost.ensures.bound c.closures_cost.ensures.ends) n p r)
    (bound_within bytes limit c.reading_is_spelling.ensures.takes
    c.reading_is_spelling.ensures.again)

pub returns-clause-least : goal.returns-clause-least
returns-clause-least c =
    λ bytes limit d. yes_costs bytes limit (reads_ranged c.reading_is_spelling.ensures.writable)
    c.heap_jobs_end.ensures.cost
    (closures_fewer c.closures_cost.ensures.bound c.closures_cost.ensures.ends) d

pub returns-clause-some : goal.returns-clause-some
returns-clause-some c = λ bytes limit. some_cost bytes limit

pub returns-clause-before : goal.returns-clause-before
returns-clause-before c =
    λ bytes limit n p. spent_before bytes limit (reads_ranged c.reading_is_spelling.ensures.writable)
    c.heap_jobs_end.ensures.cost
    (closures_fewer c.closures_cost.ensures.bound c.closures_cost.ensures.ends) n p
