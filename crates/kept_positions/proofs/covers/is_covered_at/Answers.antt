use Rattle.std.proofs.Common.{◌<◌, slice_index, ◌∙◌, subst}
use Rattle.kept_positions.specs.Numbers.IsCoveredAt.{By}
use Rattle.kept_positions.proofs.covers.is_covered_at.Goals as goal

pub returns-else-sum-gt0 : goal.returns-else-sum-gt0
returns-else-sum-gt0 g c = λ u _. let (j, some, h, e, less, all) = c.has_cover.ensures u in
    By j some h (e ∙ c.in-Some.ensures) (subst (λ v. slice_index c.args.k.now.weights j < v) c.in-Some-weight_with.ensures less) all
