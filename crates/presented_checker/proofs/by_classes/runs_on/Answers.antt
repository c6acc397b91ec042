use Rattle.std.proofs.Common.{◌∙◌, ap, subst}
use Rattle.std.specs.Prelude.{All}
use Rattle.presented_text.specs.Said.{PresentedSaid}
use Rattle.class_tables.specs.Powers.{HasOther}
use Rattle.presented_checker.proofs.Powers.{powers}
use Rattle.presented_checker.proofs.by_classes.runs_on.Goals as goal

pub returns : goal.returns
returns g c = λ t.
    powers c.args.p.now c.args.i c.requires
    (subst (All (λ r. HasOther c.args.i r.0))
    (c.rules-rules.ensures.value ∙ ap (λ (q : PresentedSaid). q.relations) c.p.view_is) (c.is_unbounded.ensures t))
