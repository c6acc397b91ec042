use Rattle.std.proofs.Common.{ap₂, ◌∙◌, sym}
use Rattle.std.specs.FinSet as set
use Rattle.element_sets.proofs.SetLaws.{subset_is}
use Rattle.element_sets.proofs.LaneSet.subset.Goals as goal

pub returns : goal.returns
returns g c =
    subset_is _ _ (c.self.told ∙ sym c.other.told) c.self.invariant.fits c.other.invariant.fits
    ∙ ap₂ set.is_subset c.self.view_is c.other.view_is
