use Rattle.position_commands.proofs.Answered.{in_position, is_position}
use Rattle.position_commands.proofs.many.line_answer.Goals as goal

pub returns-in-Ok : goal.returns-in-Ok
returns-in-Ok c =
    in_position c.args.quotient.now c.args.line.now _ c.played.result
    c.in-Ok.ensures.ok
    (is_position c.args.line.now c.read.result c.in-Ok.position c.in-Ok.is c.read.ensures.text
    c.read.ensures.too_many c.read.ensures.too_large)
    c.played.ensures
