use Rattle.std.proofs.Common.{◌≡◌, ◌<◌, ◌∙◌, length, ap, subst, sym, true, false}
use Rattle.presented_claims.specs.Claims.{IsElement}
use Rattle.presented_tables.specs.declared.beside.Beside.TheVariants.{Bad, Good}
use Rattle.presented_claims.specs.Folds.{AreFiner}
use Rattle.class_tables.specs.Classes.{word_at, AreBeside}
use Rattle.class_tables.specs.Tables.{ClassLists, IsMark}
use Rattle.class_tables.proofs.Imaged.{mark-is}
use Rattle.class_tables.proofs.rows.mark.Goals as goal

pub heap_beside-requires-clause-finer : goal.heap_beside-requires-clause-finer
heap_beside-requires-clause-finer g c =
    subst (λ f. AreFiner f c.args.p.now.cycles)
    (sym (c.deref.ensures.value ∙ ap (λ (v : ClassLists). v.base) c.l.view_is)) c.requires.lists.finer

pub heap_beside-requires-clause-class : goal.heap_beside-requires-clause-class
heap_beside-requires-clause-class g c =
    let at = subst (λ (v : ClassLists). (c.args.k < length v.images) × (c.in_ok-class.class.now ≡ word_at v.images c.args.k))
    c.l.view_is c.in_ok-class.ensures in
    subst (IsElement c.args.p.now) (sym at.1) (c.requires.lists.images.elements c.args.k at.0)

pub returns-in-Bad : goal.returns-in-Bad
returns-in-Bad g c =
    let v : ClassLists = record {
      base = c.l.inside.base.items;
      tops = c.l.inside.tops.items;
      folds = c.l.inside.folds.items;
      images = c.l.inside.images;
      classes = c.l.inside.classes;
      labels = c.l.inside.labels;
    } in
    subst (λ (v : ClassLists). IsMark c.args.p.now v c.args.s.now c.args.k c.args.g true) c.l.view_is
    (mark-is c.args.p.now v c.args.s.now c.args.k c.args.g c.in_ok-n.n _ c.in_ok-class.class.now Bad
    c.deref-2.ensures.value c.in_ok-class.ensures c.in_ok-n.ensures
    (subst (AreBeside c.args.p.now c.deref-2.result.now c.in_ok-class.class.now c.in_ok-n.n) c.in-Bad.is
    c.in_ok-heap_beside.ensures))

pub returns-in-Good : goal.returns-in-Good
returns-in-Good g c =
    let v : ClassLists = record {
      base = c.l.inside.base.items;
      tops = c.l.inside.tops.items;
      folds = c.l.inside.folds.items;
      images = c.l.inside.images;
      classes = c.l.inside.classes;
      labels = c.l.inside.labels;
    } in
    subst (λ (v : ClassLists). IsMark c.args.p.now v c.args.s.now c.args.k c.args.g false) c.l.view_is
    (mark-is c.args.p.now v c.args.s.now c.args.k c.args.g c.in_ok-n.n _ c.in_ok-class.class.now Good
    c.deref-2.ensures.value c.in_ok-class.ensures c.in_ok-n.ensures
    (subst (AreBeside c.args.p.now c.deref-2.result.now c.in_ok-class.class.now c.in_ok-n.n) c.in-Good.is
    c.in_ok-heap_beside.ensures))
