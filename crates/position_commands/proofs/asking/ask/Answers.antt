use Rattle.given_quotients.proofs.Says.{says_given}
use Rattle.position_commands.specs.Said.{SaysTo}
use Rattle.position_commands.proofs.asking.ask.Goals as goal

pub returns-clause-asks : goal.returns-clause-asks
returns-clause-asks g c =
    let X = c.in_ok-position.position in
    let said = c.in_ok-said_in.field-0 in (
      X,
      c.in_ok-position.ensures.read,
      says_given (SaysTo c.args.question X) _ _ c.in_ok-found.found said.text.items said.succeeds
          c.in_ok-found.ensures.found c.in_ok-said_in.ensures,
    )
