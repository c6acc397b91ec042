use Rattle.std.proofs.Common.{[], codes}
use Rattle.command_line.proofs.commands.describe_command.Goals as goal

pub returns : goal.returns
returns c =
    let one = c.with_arg-made.ensures (codes "describe") [] _ c.command.ensures c.optional.ensures.rule
    c.optional.ensures.local in
    let two = c.with_arg-made-2.ensures _ _ _ one c.flag.ensures.rule c.flag.ensures.local in
    let three = c.with_arg-made-3.ensures _ _ _ two c.flag-2.ensures.rule c.flag-2.ensures.local in
    let four = c.with_arg-made-4.ensures _ _ _ three c.flag-3.ensures.rule c.flag-3.ensures.local in
    let five = c.with_arg-made-5.ensures _ _ _ four c.flag-4.ensures.rule c.flag-4.ensures.local in
    let six = c.with_arg-made-6.ensures _ _ _ five c.flag-5.ensures.rule c.flag-5.ensures.local in
    let seven = c.with_arg-made-7.ensures _ _ _ six c.flag-6.ensures.rule c.flag-6.ensures.local in
    let eight = c.with_arg-made-8.ensures _ _ _ seven c.flag-7.ensures.rule c.flag-7.ensures.local in
    let nine = c.with_arg-made-9.ensures _ _ _ eight c.flag-8.ensures.rule c.flag-8.ensures.local in
    let ten = c.with_arg-made-10.ensures _ _ _ nine c.flag-9.ensures.rule c.flag-9.ensures.local in
    c.with_arg.ensures _ _ _ ten c.limit.ensures.rule c.limit.ensures.local
