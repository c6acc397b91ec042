use Rattle.std.proofs.Common.{Bool, List, subst}
use Rattle.kept_positions.specs.Told.{AreTold}
use Rattle.presented_tables.specs.Elements.{ListedElements}
use Rattle.presented_tables.specs.Tested.{PresentedTables}
use Rattle.presented_checker.proofs.checking.tell.Goals as goal

pub returns-in-Ok-clause-told : goal.returns-in-Ok-clause-told
returns-in-Ok-clause-told g c =
    subst (λ (t : PresentedTables). AreTold t.tables t.elements.bits) c.tables.view_is
    (subst (λ (e : ListedElements). AreTold c.tables.inside.tables e.bits) c.elements.view_is
    (subst (λ (bits : List Bool). AreTold c.tables.inside.tables bits) c.as_slice.ensures.value c.in-Ok.ensures))
