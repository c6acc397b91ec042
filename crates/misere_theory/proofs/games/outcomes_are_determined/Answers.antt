use Rattle.misere_theory.specs.Games.{IsHeap}
use Rattle.misere_theory.proofs.Outcomes.{determined, not_both as never}
use Rattle.misere_theory.proofs.Sums.{move_smaller, move_kept, heaps_kept}
use Rattle.misere_theory.proofs.games.outcomes_are_determined.Goals as goal

pub returns : goal.returns
returns g = record {
  either = determined;
  not_both = λ code X p q. never p q;
  falls = λ code X Y m. move_smaller m;
  stays = λ code X Y m p. move_kept IsHeap code (heaps_kept code) m p;
}
