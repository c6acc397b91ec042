use Rattle.std.proofs.Common.{rules}
use Rattle.checker.proofs.periods.comes_again.Goals as goal

pub returns-then-shift-gt0-clause-again : goal.returns-then-shift-gt0-clause-again
returns-then-shift-gt0-clause-again g c = search rules

pub returns-then-shift-gt0-clause-same : goal.returns-then-shift-gt0-clause-same
returns-then-shift-gt0-clause-same g c = search rules
