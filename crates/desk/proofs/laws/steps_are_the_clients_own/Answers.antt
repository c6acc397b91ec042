use Rattle.desk.proofs.RunLaws.{own_step, refused_step}
use Rattle.desk.proofs.laws.steps_are_the_clients_own.Goals as goal

pub returns-clause-own : goal.returns-clause-own
returns-clause-own c = own_step c.right_answers_are_one.ensures

pub returns-clause-unchanged : goal.returns-clause-unchanged
returns-clause-unchanged c = refused_step c.right_answers_are_one.ensures
