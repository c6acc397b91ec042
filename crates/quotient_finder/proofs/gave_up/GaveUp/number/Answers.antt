use Rattle.std.proofs.Common.{rules}
use Rattle.quotient_finder.proofs.gave_up.GaveUp.number.Goals as goal

pub returns-in-Empty : goal.returns-in-Empty
returns-in-Empty c = search rules
