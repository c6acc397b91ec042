use Rattle.std.proofs.Common.{inr, refl}
use Rattle.checker.proofs.elements.breaks_rule.Goals as goal

pub returns-in-Err : goal.returns-in-Err
returns-in-Err g c = inr refl
