use Rattle.std.proofs.Common.{rules}
use Rattle.commands.proofs.ending.ended.Goals as goal

pub returns : goal.returns
returns g c = search rules
