use Rattle.std.proofs.Common.{◌∙◌, ap, subst}
use Rattle.presented_claims.specs.Folds.{AreFiner}
use Rattle.class_tables.specs.Tables.{ClassLists}
use Rattle.class_tables.proofs.turning.are_fine_folds.Goals as goal

pub returns-then-are_folds-clause-finer : goal.returns-then-are_folds-clause-finer
returns-then-are_folds-clause-finer g c = λ t.
    subst (AreFiner c.args.folds.now) (c.as_slice.ensures.value ∙ ap (λ (v : ClassLists). v.folds) c.l.view_is)
    (c.are_finer.ensures t)
