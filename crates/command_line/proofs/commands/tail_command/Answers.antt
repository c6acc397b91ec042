use Rattle.std.proofs.Common.{[], codes}
use Rattle.command_line.proofs.commands.tail_command.Goals as goal

pub returns : goal.returns
returns c =
    let one = c.with_arg-made.ensures (codes "tail") [] _ c.command.ensures c.needed.ensures.rule
    c.needed.ensures.local in
    c.with_arg.ensures _ _ _ one c.limit.ensures.rule c.limit.ensures.local
