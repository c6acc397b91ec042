use Rattle.std.proofs.Common.{rules, refl}
use Rattle.verdict_texts.specs.Lines.IsOutcomeLine.{LineP, LineN, LineUnknown}
use Rattle.verdict_texts.proofs.lines.outcome_line.Goals as goal

pub returns-in-Ok-P : goal.returns-in-Ok-P
returns-in-Ok-P g c = LineP (search rules) (search rules) refl

pub returns-in-Ok-N : goal.returns-in-Ok-N
returns-in-Ok-N g c = LineN (search rules) (search rules) refl

pub returns-in-Err-Budget : goal.returns-in-Err-Budget
returns-in-Err-Budget g c = LineUnknown (search rules) refl
