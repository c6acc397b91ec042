use Rattle.std.proofs.Common.{◌≡◌, ap, ◌∙◌, arith, length, length-set}
use Rattle.std.specs.FinSet as set
use Rattle.element_sets.proofs.SetLaws.{set_of-set, one_more_fits}
use Rattle.element_sets.proofs.LaneSet.put.Goals as goal

pub returns : goal.returns
returns g c =
    let count : length c.self.inside.lanes ≡ g.row.LANES = c.self.told in
    set_of-set _ c.args.x (omega arith) ∙ ap (λ s. set.insert s c.args.x) c.self.view_is

pub invariant_of-self : goal.invariant_of-self
invariant_of-self g c =
    record {
      length_is = length-set _ _ _ ∙ c.self.told;
      fits = one_more_fits _ _ _ (omega arith) c.self.invariant.fits;
    }
