use Rattle.given_quotients.proofs.Says.{says_given}
use Rattle.verdict_commands.specs.QuotientLines.{TellsQuotient}
use Rattle.verdict_commands.proofs.verifying.verify.Goals as goal

pub returns-clause-verifies : goal.returns-clause-verifies
returns-clause-verifies g c =
    let said = c.in_ok-line_said.field-0 in
    says_given TellsQuotient _ _ c.in_ok-found.found said.text.items said.succeeds c.in_ok-found.ensures.found
    c.in_ok-line_said.ensures
