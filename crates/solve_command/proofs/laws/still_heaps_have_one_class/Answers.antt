use Rattle.solve_command.proofs.Moves.{one_class}
use Rattle.solve_command.proofs.laws.still_heaps_have_one_class.Goals as goal

pub returns : goal.returns
returns c = one_class
