use Rattle.given_quotients.proofs.Says.{says_given}
use Rattle.position_commands.specs.Said.{SaysTo}
use Rattle.position_commands.specs.declared.asking.Question.TheVariants.{Play}
use Rattle.verdict_commands.proofs.playing.play_infinite.Goals as goal

pub returns-clause-plays : goal.returns-clause-plays
returns-clause-plays g c =
    let X = c.in_ok-position.position in
    let said = c.in_ok-said_in.field-0 in (
      X,
      c.in_ok-position.ensures.read,
      says_given (SaysTo Play X) _ _ c.in_ok-found.found said.text.items said.succeeds
          c.in_ok-found.ensures.found c.in_ok-said_in.ensures,
    )
