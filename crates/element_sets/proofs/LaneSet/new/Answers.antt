use Rattle.element_sets.proofs.SetLaws.{set_of-empty, zeros}
use Rattle.element_sets.proofs.LaneSet.new.Goals as goal

pub returns : goal.returns
returns g c = set_of-empty _ (zeros g.row.LANES)
