use Rattle.misere_theory.proofs.Reachables.{reached_by_move, reached_on, reached_position}
use Rattle.misere_theory.proofs.plays.moves_reach_positions.Goals as goal

pub returns : goal.returns
returns g = record {
  by_a_move = reached_by_move;
  onward = λ code X Y Z p q. reached_on p q;
  stays = λ code X Y r p. reached_position r p;
}
