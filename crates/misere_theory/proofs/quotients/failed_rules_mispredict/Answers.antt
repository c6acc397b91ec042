use Rattle.misere_theory.proofs.Rules.{mispredicts}
use Rattle.misere_theory.proofs.quotients.failed_rules_mispredict.Goals as goal

pub returns : goal.returns
returns g = mispredicts
