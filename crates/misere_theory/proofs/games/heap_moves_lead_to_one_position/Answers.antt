use Rattle.misere_theory.proofs.Lessened.{moved_once_permuted}
use Rattle.misere_theory.proofs.games.heap_moves_lead_to_one_position.Goals as goal

pub returns : goal.returns
returns g = moved_once_permuted
