use Rattle.player.proofs.OneAnswer.{answers_one}
use Rattle.player.proofs.laws.right_answers_are_one.Goals as goal

pub returns : goal.returns
returns c = answers_one
