use Rattle.player.proofs.Answered.{answers_by}
use Rattle.player.proofs.Looked.{first_of_tried}
use Rattle.player.proofs.play.answer_at.Goals as goal

pub returns : goal.returns
returns g c =
    answers_by c.args.certified.now.code c.args.heaps.now c.answer_by.result
    (first_of_tried c.args.certified.now c.cert.ensures.accepted c.args.heaps.now c.requires.position)
    c.answer_by.ensures
