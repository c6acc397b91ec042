use Rattle.quotient_search.proofs.Least.{NoneBelow}
use Rattle.quotient_search.proofs.periods.least_period.Given as goal

-- no smaller period serves
abbrev pub invariant-loop-period : goal.invariant-loop-period
invariant-loop-period l = NoneBelow l.entries l.period
