use Rattle.std.proofs.Common.{ap₂, ◌∙◌, sym}
use Rattle.element_sets.specs.Same.{same}
use Rattle.element_sets.proofs.SetLaws.{eq_is}
use Rattle.element_sets.proofs.LaneSetPartialEq.eq.Goals as goal

pub returns : goal.returns
returns g c =
    c.eq.ensures ∙ eq_is _ _ (c.self.told ∙ sym c.other.told) c.self.invariant.fits
    c.other.invariant.fits ∙ ap₂ same c.self.view_is c.other.view_is
