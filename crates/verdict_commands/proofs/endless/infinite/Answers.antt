use Rattle.given_quotients.proofs.Says.{says_given}
use Rattle.verdict_commands.specs.QuotientLines.{TellsQuotient}
use Rattle.verdict_commands.proofs.endless.infinite.Goals as goal

pub returns-clause-said : goal.returns-clause-said
returns-clause-said g c =
    let said = c.in_ok-line_said.field-0 in
    says_given TellsQuotient _ _ c.in_ok-found.found said.text.items said.succeeds c.in_ok-found.ensures.found
    c.in_ok-line_said.ensures
