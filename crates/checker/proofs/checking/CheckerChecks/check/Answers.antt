use Rattle.std.proofs.Common.{rules}
use Rattle.checker.proofs.checking.CheckerChecks.check.Goals as goal

pub returns : goal.returns
returns g c = search rules
