use Rattle.std.proofs.Common.{◌∙◌, ◌≡◌, ◌<◌, length, ap, subst, sym}
use Rattle.presented_claims.specs.Claims.{IsElement}
use Rattle.presented_tables.specs.Elements.{place}
use Rattle.presented_tables.proofs.Mapped.{if-some}
use Rattle.class_tables.specs.Classes.{word_at}
use Rattle.class_tables.specs.Tables.{ClassLists}
use Rattle.class_tables.specs.Turns.{FineClasses, AreFirsts, DoesTake}
use Rattle.class_tables.proofs.Imaged.{take-is}
use Rattle.class_tables.proofs.turning.taken.Goals as goal

pub led_fold-requires-clause-class : goal.led_fold-requires-clause-class
led_fold-requires-clause-class g c =
    let at = subst (λ (v : FineClasses). (c.args.k < length v.classes) × (c.in_ok-class.class.now ≡ word_at v.classes c.args.k))
    c.f.view_is c.in_ok-class.ensures in
    subst (IsElement c.args.p.now) (sym at.1) (c.requires.fine.classes.elements c.args.k at.0)

pub first_place-requires : goal.first_place-requires
first_place-requires g c = subst (λ (v : ClassLists). AreFirsts v.classes) (sym c.l.view_is) c.requires.firsts

pub returns : goal.returns
returns g c =
    let v : ClassLists = record {
      base = c.l.inside.base.items;
      tops = c.l.inside.tops.items;
      folds = c.l.inside.folds.items;
      images = c.l.inside.images;
      classes = c.l.inside.classes;
      labels = c.l.inside.labels;
    } in
    let f : FineClasses = record { folds = c.f.inside.folds.items; classes = c.f.inside.classes } in
    if-some _ _ c.first_place.result c.first_place.ensures
    (λ z found. subst (λ (v : FineClasses). DoesTake c.args.p.now c.args.l.now c.args.s.now v c.args.k c.args.g z) c.f.view_is
    (subst (λ (v : ClassLists). DoesTake c.args.p.now v c.args.s.now f c.args.k c.args.g z) c.l.view_is
    (take-is c.args.p.now v c.args.s.now f c.args.k c.args.g z c.in_ok-n.n _ _
    c.in_ok-class.class.now c.heap_word.result c.in_ok-fold.fold c.deref.ensures.value c.deref-2.ensures.value
    c.in_ok-class.ensures c.in_ok-n.ensures c.heap_word.ensures c.in_ok-fold.ensures found)))
