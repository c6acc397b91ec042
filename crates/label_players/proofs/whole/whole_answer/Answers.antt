use Rattle.std.proofs.Common.{ℕ, List, ◌-◌, subst}
use Rattle.player.specs.Answers.{IsTriedAnswer}
use Rattle.label_players.proofs.whole.whole_answer.Goals as goal

pub returns : goal.returns
returns g c =
    subst (λ (X : List ℕ). IsTriedAnswer c.args.game.now.code (λ _. c.args.game.now.start - 1) X c.whole_answer_at.result)
    c.heaps.ensures.value c.whole_answer_at.ensures
