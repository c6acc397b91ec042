use Rattle.std.proofs.Common.{rules}
use Rattle.monoid_table.proofs.phi.Phi.start.Goals as goal

pub returns-clause-value : goal.returns-clause-value
returns-clause-value g c = search rules
