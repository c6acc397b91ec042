use Rattle.std.proofs.Common.{rules}
use Rattle.desk.proofs.desk.Desk.reply.Goals as goal

pub returns-in-Outcome : goal.returns-in-Outcome
returns-in-Outcome g c = search rules
