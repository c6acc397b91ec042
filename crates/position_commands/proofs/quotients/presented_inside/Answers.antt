use Rattle.position_commands.proofs.quotients.presented_inside.Goals as goal

pub returns : goal.returns
returns c = c.said.ensures.right.accepted.presents.part
