use Rattle.std.proofs.Common.{◌∙◌, sym}
use Rattle.verdict_commands.proofs.InfiniteGiven.{finite_told, refused_told}
use Rattle.verdict_commands.proofs.endless.judged_endless.Goals as goal

pub returns-then-is_some : goal.returns-then-is_some
returns-then-is_some c =
    finite_told c.args.bytes.now _ c.in_ok-quotient.field-0 c.in-Ok.quotient c.order.result c.in_ok-quotient.ensures
    c.in-Ok.is c.order.ensures (sym c.is_some.ensures ∙ c.if-is_some.true) c.in_ok-finite_text-in-Ok.ensures

pub returns-in-Err : goal.returns-in-Err
returns-in-Err c =
    refused_told c.args.bytes.now c.in_ok-quotient.field-0 c.in-Err.no c.in_ok-quotient.ensures c.in-Err.is
