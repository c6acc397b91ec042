use Rattle.misere_theory.proofs.Sums.{heaps_kept}
use Rattle.position_commands.proofs.quotients.whole_inside.Goals as goal

pub returns : goal.returns
returns c = heaps_kept c.args.game.now.code
