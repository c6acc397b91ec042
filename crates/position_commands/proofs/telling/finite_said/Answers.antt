use Rattle.player.specs.Answers.{SpeaksOf}
use Rattle.position_commands.specs.Apart.{SaysApart}
use Rattle.position_commands.proofs.Joined.{well_said}
use Rattle.position_commands.proofs.telling.finite_said.Goals as goal

pub returns-then-fits-2 : goal.returns-then-fits-2
returns-then-fits-2 c =
    let X = c.args.first.now in
    let Y = c.args.second.now in
    well_said (λ d. SpeaksOf d X × SpeaksOf d Y) (λ d. SaysApart d X Y) c.args.certified.now
    c.apart_said.result
    (c.fits.ensures.fits.0 c.if-fits.true, c.fits-then-fits.ensures.fits.0 c.if-fits-2.true)
    c.apart_said.ensures.told c.apart_said.ensures.succeeds
