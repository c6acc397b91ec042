use Rattle.std.proofs.Common.{arith}
use Rattle.presented_checker.proofs.by_classes.is_endless.Goals as goal

pub returns-then-runs_on : goal.returns-then-runs_on
returns-then-runs_on g c = λ _. (c.loop-i.i, grind arith, c.runs_on.ensures c.if-runs_on.true)
