use Rattle.check_machine.proofs.CostLaws.{reaches-on, some_cost}
use Rattle.check_machine.proofs.turns.turns_decide.Goals as goal

pub returns-clause-on : goal.returns-clause-on
returns-clause-on c = λ bytes limit n p q before after. reaches-on bytes limit n p q before after

pub returns-clause-some : goal.returns-clause-some
returns-clause-some c = λ bytes limit. some_cost bytes limit
