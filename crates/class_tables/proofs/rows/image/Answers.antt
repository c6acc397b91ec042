use Rattle.std.proofs.Common.{subst}
use Rattle.presented_tables.proofs.Mapped.{if-some}
use Rattle.class_tables.specs.Tables.{ClassLists, IsImage}
use Rattle.class_tables.proofs.Imaged.{image-is}
use Rattle.class_tables.proofs.rows.image.Goals as goal

pub returns : goal.returns
returns g c =
    if-some _ _ c.small.result c.small.ensures
    (λ k same. subst (λ (v : ClassLists). IsImage c.args.p.now v c.args.w c.args.x k) c.l.view_is
    (image-is c.args.p.now _ c.args.w c.args.x k c.in_ok-found.found _ _ c.in_ok-label.label.now
    c.in_ok-class.class.now c.in_ok-fold.fold c.deref.ensures.value c.deref-2.ensures.value c.in_ok-label.ensures
    c.in_ok-class.ensures c.in_ok-fold.ensures c.in_ok-found.ensures same))
