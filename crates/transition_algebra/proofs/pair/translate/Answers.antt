use Rattle.std.proofs.Common.{◌∙◌}
use Rattle.std.specs.Prelude.{slice_index}
use Rattle.monoid_table.specs.Grids.{times_in}
use Rattle.transition_algebra.proofs.Images.{same_image}
use Rattle.transition_algebra.proofs.pair.translate.Goals as goal

pub returns : goal.returns
returns g c =
    c.translate.ensures
    ∙ same_image (slice_index c.row.result.now) (times_in c.args.table.now c.args.value)
    c.args.elements.now (λ x h. c.row.ensures.products x (c.requires.elements_in x h))
