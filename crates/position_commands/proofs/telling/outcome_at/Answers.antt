use Rattle.position_commands.proofs.Separated.{n_here}
use Rattle.position_commands.proofs.telling.outcome_at.Goals as goal

pub returns-else-holds-clause-outcome : goal.returns-else-holds-clause-outcome
returns-else-holds-clause-outcome c = λ X fits is.
    n_here c.args.certified.now c.cert.ensures.accepted X c.args.element c.holds.result fits is c.holds.ensures
    c.if-holds.false
