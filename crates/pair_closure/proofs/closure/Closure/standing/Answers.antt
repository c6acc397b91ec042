use Rattle.std.proofs.Common.{rules}
use Rattle.pair_closure.proofs.closure.Closure.standing.Goals as goal

pub returns-in-Done-clause-closed : goal.returns-in-Done-clause-closed
returns-in-Done-clause-closed g c =
    λ _ code claim over. (c.shows_pairs.ensures.shows code claim over).done
    (c.in-Done.ensures.done (search rules))

pub returns-in-Over-clause-exceeded : goal.returns-in-Over-clause-exceeded
returns-in-Over-clause-exceeded g c =
    λ _ code claim over. (c.shows_pairs.ensures.shows code claim over).over
    (c.in-Over.ensures.over (search rules))

pub returns-in-Over-clause-over : goal.returns-in-Over-clause-over
returns-in-Over-clause-over g c = λ _. c.in-Over.ensures.over (search rules)
