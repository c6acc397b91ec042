use Rattle.solve_command.proofs.Came.{asked}
use Rattle.solve_command.proofs.searches.ask.Goals as goal

pub returns-clause-asked : goal.returns-clause-asked
returns-clause-asked c = asked _ _ _ _ _ _ _ _ c.ask_rounds-came.ensures.searched
