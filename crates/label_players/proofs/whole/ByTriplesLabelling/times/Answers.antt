use Rattle.std.proofs.Common.{subst, sym}
use Rattle.dominance.specs.Triples.{Triple}
use Rattle.dominance.proofs.Positions.{triple-append}
use Rattle.dominance_text.specs.Labels.{label_of}
use Rattle.misere_theory.specs.Games.{IsHeap}
use Rattle.misere_theory.proofs.Sums.{IsPosition-append}
use Rattle.label_players.specs.Triples.{IsTripleOf}
use Rattle.label_players.proofs.whole.ByTriplesLabelling.times.Goals as goal

pub returns : goal.returns
returns g c = λ X Y p q. (
  IsPosition-append IsHeap X Y p.0 q.0,
  subst (λ (u : Triple). IsTripleOf u c.together.result) (sym (triple-append (label_of c.args.self.now.game.now) X Y))
      (c.together.ensures _ _ p.1 q.1),
)
