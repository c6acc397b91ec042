use Rattle.std.proofs.Common.{◌∙◌, ap}
use Rattle.presented_text.specs.Said.{PresentedSaid}
use Rattle.presented_forms.proofs.Listed.{are_least}
use Rattle.presented_forms.proofs.least.have_least_cycles.Goals as goal

pub returns : goal.returns
returns g c = λ t.
    are_least c.args.text.now c.requires.few c.requires.ranges c.requires.in_form _ _
    (c.as_slice-cycles.ensures.value ∙ ap (λ (p : PresentedSaid). p.cycles) c.text.view_is)
    (c.as_slice-words.ensures.value ∙ ap (λ (p : PresentedSaid). p.portion) c.text.view_is)
    (c.are_least_cycles.ensures t)
