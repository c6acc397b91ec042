use Rattle.nim_tails.proofs.Outcomes.{determined, not_both as never}
use Rattle.nim_tails.proofs.normal.normal_outcomes_are_determined.Goals as goal

pub returns : goal.returns
returns g = record { either = determined; not_both = λ code X p q. never p q }
