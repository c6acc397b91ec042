use Rattle.misere_theory.proofs.Sums.{sum_moves, move_on_left, move_on_right}
use Rattle.misere_theory.proofs.games.sums_move_in_one_part.Goals as goal

pub returns : goal.returns
returns g = record {
  parts = sum_moves;
  left = move_on_left;
  right = move_on_right;
}
