use Rattle.verdict_commands.proofs.Spelling.{spelled}
use Rattle.verdict_commands.proofs.codes.code_fault.Goals as goal

pub returns : goal.returns
returns c =
    spelled c.args.text.now c.in_default.ensures c.in_default-fault_of_front.ensures
    c.in_default-fault_of_points.ensures c.if-text-eq48.false
