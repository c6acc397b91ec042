use Rattle.std.proofs.Common.{[], subst, sym, ◌∙◌}
use Rattle.std.proofs.lemmas.Bool.{false≢true}
use Rattle.presentations.specs.declared.TheConstants.{LETTERS}
use Rattle.normal_forms.specs.Forms.{IsStandard}
use Rattle.normal_forms.proofs.basis.Basis.is_standard.Goals as goal

pub returns-in-Some : goal.returns-in-Some
returns-in-Some g c = (
  λ t. absurd (false≢true t),
  λ standard.
      let e = c.in-Some.ensures in
      let here : IsStandard LETTERS c.as_slice.result.now c.args.word.now =
      subst (λ r. IsStandard LETTERS r c.args.word.now) (sym (c.as_slice.ensures.value ∙ c.self.view_is))
      standard
      in
      absurd (here.free c.in-Some.field-0 ([], []) e.0 (e.1 ([], []))),
)
