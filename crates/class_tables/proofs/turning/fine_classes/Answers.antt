use Rattle.std.proofs.Common.{refl, subst, sym}
use Rattle.presented_claims.specs.Folds.{HavePeriods, AreFiner}
use Rattle.class_tables.specs.Classes.{AreFolds, AreClasses}
use Rattle.class_tables.proofs.turning.fine_classes.Goals as goal

pub returns-clause-fine : goal.returns-clause-fine
returns-clause-fine g c =
    let folds = subst (AreFolds c.args.p.now) c.deref.ensures.value (c.if-not-are_fine_folds.ensures.folds refl) in
    record {
      folds = folds;
      finer =
          subst (λ f. AreFiner f c.args.l.now.folds) c.deref.ensures.value (c.if-not-are_fine_folds.ensures.finer refl);
      classes =
          subst (λ f. AreClasses c.args.p.now f c.in_ok-classes.classes) c.deref-2.ensures.value
          (c.in_ok-classes.ensures.classes (subst HavePeriods (sym c.deref-2.ensures.value) folds.periods));
    }
