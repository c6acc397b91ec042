use Rattle.misere_theory.proofs.Wins.{p_keeps}
use Rattle.misere_theory.proofs.plays.first_wins_keep.Goals as goal

pub returns : goal.returns
returns g = p_keeps
