use Rattle.label_players.proofs.Enough.{enough}
use Rattle.label_players.proofs.labelling.ByFormsLabelling.are_enough.Goals as goal

pub returns-clause-part : goal.returns-clause-part
returns-clause-part g c = c.said.ensures.right.accepted.presents.part

pub returns-clause-enough : goal.returns-clause-enough
returns-clause-enough g c = enough c.args.self.now.quotient.now c.said.ensures.right
