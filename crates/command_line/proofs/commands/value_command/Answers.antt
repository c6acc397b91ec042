use Rattle.std.proofs.Common.{[], codes}
use Rattle.command_line.proofs.commands.value_command.Goals as goal

pub returns : goal.returns
returns c =
    let one = c.with_arg-made.ensures (codes "value") [] _ c.command.ensures c.needed.ensures.rule
    c.needed.ensures.local in
    let two = c.with_arg-made-2.ensures _ _ _ one c.needed-2.ensures.rule
    c.needed-2.ensures.local in
    c.with_arg.ensures _ _ _ two c.limit.ensures.rule c.limit.ensures.local
