use Rattle.std.proofs.Common.{◌-◌, ◌≤◌, length}
use Rattle.quotient_search.proofs.Least.{Agrees}
use Rattle.quotient_search.proofs.periods.repeats_from.Given as goal

-- the entries from here on agree
abbrev pub invariant-loop-start : goal.invariant-loop-start
invariant-loop-start l = (l.start ≤ length l.entries - l.period) × Agrees l.entries l.start l.period

abbrev pub decreases-loop-start : goal.decreases-loop-start
decreases-loop-start l = l.start
