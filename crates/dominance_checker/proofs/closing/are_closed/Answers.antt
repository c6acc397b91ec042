use Rattle.std.proofs.Common.{rules}
use Rattle.dominance_checker.proofs.closing.are_closed.Goals as goal

pub returns-then-has_empty : goal.returns-then-has_empty
returns-then-has_empty c = λ t.
    record { start = c.has_empty.ensures (search rules); step = c.have_all_within.ensures t }
