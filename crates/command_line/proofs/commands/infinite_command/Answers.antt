use Rattle.std.proofs.Common.{[], codes}
use Rattle.command_line.proofs.commands.infinite_command.Goals as goal

pub returns : goal.returns
returns c =
    let one = c.with_arg-made.ensures (codes "infinite") [] _ c.command.ensures c.needed.ensures.rule
    c.needed.ensures.local in
    let two = c.with_arg-made-2.ensures _ _ _ one c.optional.ensures.rule
    c.optional.ensures.local in
    let three = c.with_arg-made-3.ensures _ _ _ two c.flag.ensures.rule c.flag.ensures.local in
    let four = c.with_arg-made-4.ensures _ _ _ three c.flag-2.ensures.rule c.flag-2.ensures.local in
    c.with_arg.ensures _ _ _ four c.flag-3.ensures.rule c.flag-3.ensures.local
