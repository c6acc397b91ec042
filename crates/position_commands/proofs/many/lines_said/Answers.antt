use Rattle.std.proofs.Common.{arith}
use Rattle.command_results.specs.Lines.{AreLinesOf}
use Rattle.position_commands.proofs.Answered.{answers_found}
use Rattle.position_commands.proofs.many.lines_said.Goals as goal

pub returns-in_ok-lines_answers-in-Ok-clause-says : goal.returns-in_ok-lines_answers-in-Ok-clause-says
returns-in_ok-lines_answers-in-Ok-clause-says g c =
    let lines = c.in_ok-lines-in-Ok.lines in
    let said = c.in_ok-lines_answers-in-Ok.field-0 in
    answers_found (AreLinesOf (g.S.Source.left c.args.input.now)) c.args.found c.in-Ok.quotient lines.items
    c.deref.result.now said.text.items said.succeeds c.in-Ok.is c.in_ok-lines-in-Ok.ensures.bytes
    (let few = c.in_ok-lines-in-Ok.ensures.bound in
    let long = lines.ok in
    omega (arith, few, long))
    c.deref.ensures.value c.in_ok-lines_answers-in-Ok.ensures
