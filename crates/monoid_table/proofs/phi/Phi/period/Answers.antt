use Rattle.std.proofs.Common.{rules}
use Rattle.monoid_table.proofs.phi.Phi.period.Goals as goal

pub returns : goal.returns
returns g c = search rules
