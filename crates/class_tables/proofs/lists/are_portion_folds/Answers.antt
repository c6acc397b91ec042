use Rattle.std.proofs.Common.{◌∙◌, ap, subst}
use Rattle.presented_text.specs.Said.{PresentedSaid}
use Rattle.presented_claims.specs.Folds.{AreFiner}
use Rattle.class_tables.proofs.lists.are_portion_folds.Goals as goal

pub returns-then-are_folds-clause-finer : goal.returns-then-are_folds-clause-finer
returns-then-are_folds-clause-finer g c = λ t.
    subst (AreFiner c.args.folds.now) (c.as_slice.ensures.value ∙ ap (λ (q : PresentedSaid). q.cycles) c.p.view_is)
    (c.are_finer.ensures t)
