use Rattle.std.proofs.Common.{rules}
use Rattle.commands.proofs.whole_run.refuse.Goals as goal

pub returns-clause-status : goal.returns-clause-status
returns-clause-status g c = search rules
