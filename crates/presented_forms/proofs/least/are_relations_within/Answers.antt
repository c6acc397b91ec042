use Rattle.std.proofs.Common.{◌≡◌, ◌∙◌, length, ap, subst, rules}
use Rattle.normal_forms.specs.Forms.{AreIn}
use Rattle.presented_text.specs.Said.{PresentedSaid}
use Rattle.presented_forms.proofs.least.are_relations_within.Goals as goal

pub returns : goal.returns
returns g c = λ t.
    let same : c.len.result ≡ length c.args.text.now.letters = search rules in
    subst (λ n. AreIn n c.args.text.now.relations) same
    (subst (AreIn c.len.result) (c.as_slice-rules.ensures.value ∙ ap (λ (q : PresentedSaid). q.relations) c.text.view_is)
    (c.are_rules_within.ensures t))
