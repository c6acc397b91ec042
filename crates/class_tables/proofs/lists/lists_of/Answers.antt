use Rattle.std.proofs.Common.{refl, subst, sym}
use Rattle.presented_claims.specs.Folds.{HavePeriods, AreFiner}
use Rattle.class_tables.specs.Classes.{AreFolds, AreClasses}
use Rattle.class_tables.proofs.lists.lists_of.Goals as goal

pub returns-clause-lists : goal.returns-clause-lists
returns-clause-lists g c =
    let tops = subst (AreFolds c.args.p.now) c.deref-else-not-are_portion_folds.ensures.value
    (c.if-not-are_portion_folds-2.ensures.folds refl) in
    let folds = subst (AreFolds c.args.p.now) c.deref-else-not-are_portion_folds-2.ensures.value
    (c.if-not-are_folds.ensures refl) in
    record {
      base = subst (AreFolds c.args.p.now) c.deref.ensures.value (c.if-not-are_portion_folds.ensures.folds refl);
      finer =
          subst (λ f. AreFiner f c.args.p.now.cycles) c.deref.ensures.value
          (c.if-not-are_portion_folds.ensures.finer refl);
      tops = tops;
      finer_tops =
          subst (λ f. AreFiner f c.args.p.now.cycles) c.deref-else-not-are_portion_folds.ensures.value
          (c.if-not-are_portion_folds-2.ensures.finer refl);
      folds = folds;
      images =
          subst (λ f. AreClasses c.args.p.now f c.in_ok-images.images) c.deref-2.ensures.value
          (c.in_ok-images.ensures.classes (subst HavePeriods (sym c.deref-2.ensures.value) tops.periods));
      classes =
          subst (λ f. AreClasses c.args.p.now f c.in_ok-classes.classes) c.deref-3.ensures.value
          (c.in_ok-classes.ensures.classes (subst HavePeriods (sym c.deref-3.ensures.value) folds.periods));
      some = c.in_ok-labels.ensures.some;
      first = c.in_ok-labels.ensures.first;
      labels = c.in_ok-labels.ensures.elements;
    }
