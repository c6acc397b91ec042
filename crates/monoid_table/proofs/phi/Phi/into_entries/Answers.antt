use Rattle.std.proofs.Common.{rules}
use Rattle.monoid_table.proofs.phi.Phi.into_entries.Goals as goal

pub returns : goal.returns
returns g c = search rules
