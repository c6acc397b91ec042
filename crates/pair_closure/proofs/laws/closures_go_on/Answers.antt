use Rattle.pair_closure.proofs.Calls.{retaken_on, left_of}
use Rattle.pair_closure.proofs.Keeping.{keeps_after}
use Rattle.pair_closure.proofs.laws.closures_go_on.Goals as goal

pub returns-clause-on : goal.returns-clause-on
returns-clause-on c = retaken_on

pub returns-clause-left : goal.returns-clause-left
returns-clause-left c = left_of

pub returns-clause-kept : goal.returns-clause-kept
returns-clause-kept c = λ p. keeps_after p.state
