use Rattle.std.proofs.Common.{ap, ◌∙◌, arith}
use Rattle.std.specs.FinSet as set
use Rattle.element_sets.proofs.SetLaws.{looked_up, turned_down}
use Rattle.element_sets.proofs.LaneSet.contains.Goals as goal

pub returns-then-at : goal.returns-then-at
returns-then-at g c =
    let count = c.self.told in
    turned_down c.self.inside.lanes c.args.x (omega arith)
    ∙ ap (λ s. set.contains s c.args.x) c.self.view_is

pub returns : goal.returns
returns g c =
    looked_up c.self.inside.lanes c.args.x ∙ ap (λ s. set.contains s c.args.x) c.self.view_is
