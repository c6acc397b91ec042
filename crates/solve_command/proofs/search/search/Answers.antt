use Rattle.solve_command.proofs.search.search.Goals as goal

pub returns-in-Whole-clause-searched : goal.returns-in-Whole-clause-searched
returns-in-Whole-clause-searched g c = rw c.in-Whole.is c.whole.ensures.asked
