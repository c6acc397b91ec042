use Rattle.std.proofs.Common.{sym, arith}
use Rattle.presented_tables.proofs.Words.{past}
use Rattle.class_tables.proofs.weighing.weight_at.Goals as goal

pub returns-else-i-weights : goal.returns-else-i-weights
returns-else-i-weights c = sym (past c.args.weights.now c.args.i (grind arith))
