use Rattle.std.proofs.Common.{◌∙◌, ap}
use Rattle.presented_text.specs.Said.{PresentedSaid}
use Rattle.presented_forms.proofs.InForm.{in_form}
use Rattle.presented_forms.proofs.form.is_in_form.Goals as goal

pub returns : goal.returns
returns g c = λ t.
    in_form c.args.text.now _ _ _ _
    (c.as_slice-rules.ensures.value ∙ ap (λ (p : PresentedSaid). p.relations) c.text.view_is)
    (c.as_slice.ensures.value ∙ ap (λ (p : PresentedSaid). p.words) c.text.view_is)
    (c.as_slice-2.ensures.value ∙ ap (λ (p : PresentedSaid). p.cycles) c.text.view_is)
    (c.as_slice-3.ensures.value ∙ ap (λ (p : PresentedSaid). p.portion) c.text.view_is)
    (c.are_named.ensures c.if-not-are_named.false)
    (c.is_basis_in_form.ensures.words c.if-not-is_basis_in_form.false)
    (c.is_basis_in_form.ensures.reduced c.if-not-is_basis_in_form.false)
    (c.is_basis_in_form.ensures.in_order c.if-not-is_basis_in_form.false)
    (c.is_portion_in_form.ensures.rising t) (c.is_portion_in_form.ensures.below t)
    (c.is_portion_in_form.ensures.standard t)
