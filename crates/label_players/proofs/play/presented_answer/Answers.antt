use Rattle.std.proofs.Common.{ℕ, List, subst}
use Rattle.player.specs.Answers.{IsTriedAnswer}
use Rattle.label_players.proofs.play.presented_answer.Goals as goal

pub returns : goal.returns
returns g c =
    subst (λ (X : List ℕ). IsTriedAnswer c.args.quotient.now.said.code (λ _. c.args.quotient.now.said.heaps) X
    c.presented_answer_at.result) c.heaps.ensures.value c.presented_answer_at.ensures
