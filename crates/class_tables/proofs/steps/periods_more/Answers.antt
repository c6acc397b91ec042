use Rattle.std.proofs.Common.{arith}
use Rattle.class_tables.proofs.Indexed.{whole-quotient}
use Rattle.class_tables.proofs.steps.periods_more.Goals as goal

pub returns-clause-whole : goal.returns-clause-whole
returns-clause-whole c = whole-quotient c.in_ok-d.d c.args.top.now.1 (grind arith)
