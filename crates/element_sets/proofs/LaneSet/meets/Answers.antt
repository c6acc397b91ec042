use Rattle.std.proofs.Common.{◌∙◌, sym}
use Rattle.element_sets.proofs.SetLaws.{meets_when, meets_from}
use Rattle.element_sets.proofs.LaneSet.meets.Goals as goal

pub returns : goal.returns
returns g c =
    rw (← c.self.view_is, ← c.other.view_is) (
      meets_when _ _ (c.self.told ∙ sym c.other.told) c.self.invariant.fits,
      λ x.
          meets_from _ _ (c.self.told ∙ sym c.other.told) x.0 x.1 x.2,
    )
