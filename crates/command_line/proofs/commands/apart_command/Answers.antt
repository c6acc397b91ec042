use Rattle.std.proofs.Common.{[], codes}
use Rattle.command_line.proofs.commands.apart_command.Goals as goal

pub returns : goal.returns
returns c =
    let one = c.with_arg-made.ensures (codes "apart") [] _ c.command.ensures c.needed.ensures.rule
    c.needed.ensures.local in
    let two = c.with_arg-made-2.ensures _ _ _ one c.needed-2.ensures.rule
    c.needed-2.ensures.local in
    let three = c.with_arg-made-3.ensures _ _ _ two c.needed-3.ensures.rule
    c.needed-3.ensures.local in
    c.with_arg.ensures _ _ _ three c.limit.ensures.rule c.limit.ensures.local
