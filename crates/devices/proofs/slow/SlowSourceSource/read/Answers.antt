use Rattle.std.proofs.Common.{rules}
use Rattle.devices.proofs.slow.SlowSourceSource.read.Goals as goal

pub returns-clause-bytes : goal.returns-clause-bytes
returns-clause-bytes c = search rules
