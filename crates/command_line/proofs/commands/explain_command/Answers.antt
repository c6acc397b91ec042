use Rattle.std.proofs.Common.{[], codes}
use Rattle.command_line.proofs.commands.explain_command.Goals as goal

pub returns : goal.returns
returns c =
    let one = c.with_arg-made.ensures (codes "explain") [] _ c.command.ensures c.optional.ensures.rule
    c.optional.ensures.local in
    let two = c.with_arg-made-2.ensures _ _ _ one c.option.ensures.rule c.option.ensures.local in
    c.with_arg.ensures _ _ _ two c.option-2.ensures.rule c.option-2.ensures.local
