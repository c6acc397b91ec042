use Rattle.pair_closure.proofs.Bound.{ends_within}
use Rattle.pair_closure.proofs.laws.closures_end.Goals as goal

pub returns : goal.returns
returns c = ends_within
