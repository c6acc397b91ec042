use Rattle.presentations.specs.Congruences.Related.{Turned, Chained}
use Rattle.std.proofs.Common.{subst, sym}
use Rattle.presentations.specs.Congruences.{Related}
use Rattle.normal_forms.proofs.Confluence.{one-form, same-forms}
use Rattle.normal_forms.proofs.laws.forms_are_unique.Goals as goal

pub returns-clause-one : goal.returns-clause-one
returns-clause-one c = one-form

pub returns-clause-related : goal.returns-clause-related
returns-clause-related c = λ n relations are F u v long_u long_v. (
  λ related.
      same-forms n relations are u v (F.form u) (F.form v) related (F.is u long_u) (F.is v long_v),
  λ same.
      Chained u (F.form u) v (F.is u long_u).related
      (subst (λ t. Related n relations t v) (sym same)
      (Turned v (F.form v) (F.is v long_v).related)),
)
