use Rattle.std.proofs.Common.{subst, ◌∙◌, arith}
use Rattle.presentations.specs.declared.TheConstants.{LETTERS}
use Rattle.normal_forms.specs.Forms.{IsNormalForm}
use Rattle.normal_forms.proofs.Steps.{reduces-related}
use Rattle.normal_forms.proofs.basis.Basis.normal_form.Goals as goal

pub returns : goal.returns
returns g c = (
  omega (arith, c.letter_count.ensures, c.if-letter_count-gt-MOST_LETTERS.false),
  subst (λ r. IsNormalForm LETTERS r c.args.word.now c.reduced.result)
      (c.as_slice.ensures.value ∙ c.self.view_is)
      (record {
        standard = c.reduced.ensures.standard;
        related =
            reduces-related LETTERS c.as_slice.result.now c.args.word.now c.reduced.result
            c.reduced.ensures.standard.long c.reduced.ensures.reduces;
      }),
)
