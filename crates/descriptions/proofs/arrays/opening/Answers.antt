use Rattle.std.proofs.Common.{arith}
use Rattle.std.proofs.lemmas.Grind.{common_steps}
use Rattle.descriptions.proofs.arrays.opening.Goals as goal

pub returns : goal.returns
returns c = grind (arith, common_steps, c.in_ok-text.ensures.ok)
