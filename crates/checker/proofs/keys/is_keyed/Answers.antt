use Rattle.std.proofs.Common.{rules}
use Rattle.checker.proofs.keys.is_keyed.Goals as goal

pub returns-then-key-e-clause-keyed : goal.returns-then-key-e-clause-keyed
returns-then-key-e-clause-keyed g c = search rules

pub returns-then-key-e-clause-same : goal.returns-then-key-e-clause-same
returns-then-key-e-clause-same g c = search rules
