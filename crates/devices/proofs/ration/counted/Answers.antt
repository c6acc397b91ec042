use Rattle.std.proofs.Common.{rules}
use Rattle.devices.proofs.ration.counted.Goals as goal

pub returns-clause-left : goal.returns-clause-left
returns-clause-left c = search rules
