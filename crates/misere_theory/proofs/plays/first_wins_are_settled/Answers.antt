use Rattle.misere_theory.proofs.Wins.{first_win, first_win_once, wins_at_n}
use Rattle.misere_theory.proofs.plays.first_wins_are_settled.Goals as goal

pub returns : goal.returns
returns g = record {
  some = first_win;
  one = first_win_once;
  only_there = wins_at_n;
}
