use Rattle.std.proofs.Common.{inr}
use Rattle.kept_positions.proofs.covers.is_onward.Goals as goal

pub returns-else-j-k : goal.returns-else-j-k
returns-else-j-k g c = λ u. inr (c.is_covered.ensures u)
