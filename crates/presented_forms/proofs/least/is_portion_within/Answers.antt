use Rattle.std.proofs.Common.{◌≡◌, ◌∙◌, All, length, ap, subst, rules}
use Rattle.normal_forms.specs.Forms.{IsIn}
use Rattle.presented_text.specs.Said.{PresentedSaid}
use Rattle.presented_forms.proofs.least.is_portion_within.Goals as goal

pub returns : goal.returns
returns g c = λ t.
    let same : c.len.result ≡ length c.args.text.now.letters = search rules in
    subst (λ n. All (IsIn n) c.args.text.now.portion) same
    (subst (All (IsIn c.len.result)) (c.as_slice-words.ensures.value ∙ ap (λ (q : PresentedSaid). q.portion) c.text.view_is)
    (c.are_words_within.ensures t))
