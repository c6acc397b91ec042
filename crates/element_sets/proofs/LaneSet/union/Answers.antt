use Rattle.std.proofs.Common.{ap₂, sym, ◌∙◌}
use Rattle.std.specs.FinSet as set
use Rattle.element_sets.proofs.SetLaws.{set_of-or}
use Rattle.element_sets.proofs.LaneSet.union.Goals as goal

pub returns : goal.returns
returns g c =
    set_of-or _ _ (c.self.told ∙ sym c.other.told) ∙ ap₂ set.union c.self.view_is c.other.view_is
