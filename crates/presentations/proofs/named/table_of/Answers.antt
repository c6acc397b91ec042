-- A fault of one of the three steps is the answer, and no other is.
use Rattle.std.proofs.Common.{◌∙◌, sym, inl, inr}
use Rattle.std.proofs.lemmas.Result.{on_err_weaker}
use Rattle.presentations.proofs.Faults.{is-fault, err-same, elsewhere, ok-err, unless, always}
use Rattle.presentations.proofs.named.table_of.Goals as goal

pub returns-in_err-axes : goal.returns-in_err-axes
returns-in_err-axes g c =
    let axes = c.in_err-axes.ensures in
    rw (is-fault _ _ c.from_residual.ensures.1, ← c.relations-relations.ensures) (record {
      table = tt;
      within = tt;
      unbounded = (λ e. axes.unbounded.0 (elsewhere e), λ u. elsewhere (axes.unbounded.1 u));
      limit = λ e. inl (axes.limit (elsewhere e));
      not_text = λ e. axes.not_text (elsewhere e);
    })

pub returns-in_err-classes : goal.returns-in_err-classes
returns-in_err-classes g c =
    rw (
      is-fault _ _ c.from_residual-in_err-classes.ensures.1,
      err-same _ _ c.in_err-classes.ensures.refused,
      ← c.relations-relations.ensures,
    ) (record {
      table = tt;
      within = tt;
      unbounded = (
        λ e. cc,
        λ u. absurd (ok-err _ _ (sym c.in_ok-axes.was ∙ c.axes_of.ensures.unbounded.1 u)),
      );
      limit = λ e. cc;
      not_text = λ e. cc;
    })

pub returns : goal.returns
returns g c =
    let table = c.table_in.ensures in
    rw (← c.relations-relations.ensures) (record {
      table = table.table;
      within = always c.table_in.result _ c.in_ok-axes.ensures.within;
      unbounded = (
        λ e. absurd ((unless c.table_in.result _ table.only _ e).1 e),
        λ u. absurd (ok-err _ _ (sym c.in_ok-axes.was ∙ c.axes_of.ensures.unbounded.1 u)),
      );
      limit = λ e. inr (table.limit e);
      not_text = on_err_weaker c.table_in.result (λ h. h.0) table.only;
    })

pub classes_of-requires : goal.classes_of-requires
classes_of-requires g c =
    rw c.deref.ensures.value
    (record { is_box = c.in_ok-axes.ensures.is_box; size = c.in_ok-axes.ensures.size.0 })

pub table_in-requires : goal.table_in-requires
table_in-requires g c =
    rw (c.deref-2.ensures.value, c.deref-3.ensures.value) (record {
      classes = rw c.deref.ensures.value at c.in_ok-classes.ensures.classes;
      roots = rw c.deref.ensures.value at c.in_ok-classes.ensures.roots;
      count = c.in_ok-axes.ensures.count;
      letters = c.in_ok-axes.ensures.letters;
    })
