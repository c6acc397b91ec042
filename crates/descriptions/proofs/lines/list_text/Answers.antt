use Rattle.std.proofs.Common.{arith}
use Rattle.std.proofs.lemmas.Grind.{common_steps}
use Rattle.descriptions.proofs.lines.list_text.Goals as goal

pub returns-in_ok-text-in-Latex : goal.returns-in_ok-text-in-Latex
returns-in_ok-text-in-Latex c = rw (c.in-Latex.is) (grind (arith, common_steps, c.in_ok-text-in-Latex.ensures.ok))

pub returns-in_ok-text-in-Json : goal.returns-in_ok-text-in-Json
returns-in_ok-text-in-Json c = rw (c.in-Json.is) (grind (arith, common_steps, c.in_ok-text-in-Json.ensures.ok))
