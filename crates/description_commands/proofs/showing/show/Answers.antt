use Rattle.given_quotients.proofs.Says.{says_given}
use Rattle.description_commands.specs.Shown.{ShowsOf}
use Rattle.description_commands.proofs.showing.show.Goals as goal

pub returns-clause-shows : goal.returns-clause-shows
returns-clause-shows g c =
    let said = c.in_ok-shown.field-0 in
    says_given ShowsOf _ _ c.in_ok-found.found said.text.items said.succeeds c.in_ok-found.ensures.found
    c.in_ok-shown.ensures
