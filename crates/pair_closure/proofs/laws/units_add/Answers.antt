use Rattle.pair_closure.proofs.Running.{steps_add}
use Rattle.pair_closure.proofs.laws.units_add.Goals as goal

pub returns : goal.returns
returns c = steps_add
