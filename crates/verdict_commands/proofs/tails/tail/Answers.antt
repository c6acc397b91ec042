use Rattle.given_quotients.proofs.Says.{says_given}
use Rattle.verdict_commands.specs.Lines.{IsTailText}
use Rattle.verdict_commands.proofs.tails.tail.Goals as goal

pub returns-clause-tails : goal.returns-clause-tails
returns-clause-tails g c =
    let said = c.in_ok-said.field-0 in
    says_given IsTailText _ _ c.in_ok-quotient.quotient said.text.items said.succeeds c.in_ok-quotient.ensures.found
    c.in_ok-said.ensures
