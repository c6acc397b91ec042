use Rattle.solve_command.specs.Found.Finds.{FoundWhole}
use Rattle.solve_command.proofs.Parts.{part_found}
use Rattle.solve_command.proofs.saying.found.Goals as goal

pub returns-in-Some : goal.returns-in-Some
returns-in-Some c = FoundWhole (rw (c.in-Some.is) at c.in_ok-text.ensures)

pub returns-in-None : goal.returns-in-None
returns-in-None c = part_found c.args.code.now c.args.heaps c.presented.result c.presented.ensures
