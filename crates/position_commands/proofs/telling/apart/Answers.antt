use Rattle.given_quotients.proofs.Says.{says_given}
use Rattle.position_commands.specs.Said.{SaysOfTwo}
use Rattle.position_commands.proofs.telling.apart.Goals as goal

pub returns-clause-asks : goal.returns-clause-asks
returns-clause-asks g c =
    let X = c.in_ok-first.first in
    let Y = c.in_ok-second.second in
    let said = c.in_ok-said_in.field-0 in (
      X,
      Y,
      c.in_ok-first.ensures.read,
      c.in_ok-second.ensures.read,
      says_given (SaysOfTwo X Y) _ _ c.in_ok-found.found said.text.items said.succeeds
          c.in_ok-found.ensures.found c.in_ok-said_in.ensures,
    )
