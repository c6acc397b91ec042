use Rattle.nim_tails.proofs.Mex.{nim_values}
use Rattle.nim_tails.proofs.Outcomes.{nim_sums_tell}
use Rattle.nim_tails.proofs.normal.nim_sums_tell_normal_play.Goals as goal

pub returns : goal.returns
returns g = record { told = λ M code G X good p. nim_sums_tell M code G good X p; sequence = nim_values }
