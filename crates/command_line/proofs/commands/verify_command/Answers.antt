use Rattle.std.proofs.Common.{[], codes}
use Rattle.command_line.proofs.commands.verify_command.Goals as goal

pub returns : goal.returns
returns c =
    let one = c.with_arg-made.ensures (codes "verify") [] _ c.command.ensures c.optional.ensures.rule
    c.optional.ensures.local in
    c.with_arg.ensures _ _ _ one c.limit.ensures.rule c.limit.ensures.local
