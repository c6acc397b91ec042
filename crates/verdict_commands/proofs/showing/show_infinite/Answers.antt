use Rattle.given_quotients.proofs.Says.{says_given}
use Rattle.verdict_commands.specs.Shown.{ShowsAs}
use Rattle.verdict_commands.proofs.showing.show_infinite.Goals as goal

pub returns-clause-shows : goal.returns-clause-shows
returns-clause-shows g c =
    let said = c.in_ok-said_of.field-0 in
    says_given (ShowsAs c.args.layout) _ _ c.in_ok-found.found said.text.items said.succeeds c.in_ok-found.ensures.found
    c.in_ok-said_of.ensures
