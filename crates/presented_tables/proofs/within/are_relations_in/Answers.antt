use Rattle.std.proofs.Common.{◌≡◌, ◌↔◌, ◌∙◌, IsTrue, length, ap, subst, rules}
use Rattle.normal_forms.specs.Forms.{AreIn}
use Rattle.presented_text.specs.Said.{PresentedSaid}
use Rattle.presented_tables.proofs.within.are_relations_in.Goals as goal

pub returns : goal.returns
returns g c =
    let same : c.len.result ≡ length c.args.p.now.letters = search rules in
    subst (λ n. IsTrue c.are_in.result ↔ AreIn n c.args.p.now.relations) same
    (subst (λ rs. IsTrue c.are_in.result ↔ AreIn c.len.result rs)
    (c.rules.ensures.value ∙ ap (λ (q : PresentedSaid). q.relations) c.p.view_is) c.are_in.ensures)
