use Rattle.std.proofs.Common.{◌∙◌, subst}
use Rattle.presentations.specs.declared.TheConstants.{LETTERS}
use Rattle.normal_forms.specs.Forms.{IsNormalForm}
use Rattle.presented_text.specs.Said.{PresentedSaid}
use Rattle.presented_tables.proofs.Said.{is_said}
use Rattle.presented_tables.proofs.says.PresentedSaysOutcomes.is_said_p.Goals as goal

pub returns : goal.returns
returns g c = λ says s.
    c.in_portion.ensures
    ∙ is_said c.args.self.now says s c.args.heaps.now c.in_ok-word.word c.in_ok-form.form c.in_ok-word.ensures
    (subst (λ (p : PresentedSaid). IsNormalForm LETTERS p.relations c.in_ok-word.word c.in_ok-form.form) c.self.view_is
    c.in_ok-form.ensures.1)
