use Rattle.quotient_search.proofs.Soonest.{Found}
use Rattle.quotient_search.proofs.evidence.soonest_period.Given as goal

abbrev pub invariant-loop-period : goal.invariant-loop-period
invariant-loop-period l = Found l.heaps l.period l.best l.least
