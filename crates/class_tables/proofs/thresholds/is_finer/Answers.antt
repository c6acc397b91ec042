use Rattle.std.proofs.Common.{◌≡◌, ◌+◌, ◌*◌, ◌/◌, ◌%◌, ℕ, sym, ◌∙◌, arith}
use Rattle.class_tables.proofs.Indexed.{whole-quotient}
use Rattle.class_tables.proofs.thresholds.is_finer.Goals as goal

pub returns-then-cycle-ne0-clause-period : goal.returns-then-cycle-ne0-clause-period
returns-then-cycle-ne0-clause-period c = λ t. whole-quotient c.args.fold.now.1 c.args.cycle.now.1 (grind arith)
