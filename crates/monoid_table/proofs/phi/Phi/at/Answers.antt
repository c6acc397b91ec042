use Rattle.std.proofs.lemmas.Grind.{common_steps}
use Rattle.std.proofs.Common.{arith}
use Rattle.monoid_table.proofs.phi.Phi.at.Goals as goal

pub returns : goal.returns
returns g c = grind (arith, common_steps)
