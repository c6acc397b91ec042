use Rattle.std.proofs.Common.{◌≡◌, ◌↔◌, ℕ, Bool, true, List, refl, subst}
use Rattle.misere_theory.specs.Games.{IsPosition}
use Rattle.misere_theory.specs.Labels.{BreaksRule}
use Rattle.presentations.specs.declared.TheConstants.{LETTERS}
use Rattle.normal_forms.specs.Reductions.{AreConvergent}
use Rattle.outcome_rule.proofs.Looked.{told}
use Rattle.presented_text.specs.Said.{PresentedSaid}
use Rattle.presented_tables.specs.Tested.{HasWord}
use Rattle.presented_tables.specs.Saying.{AreSaidBy}
use Rattle.presented_checker.proofs.Broken.{broken_at}
use Rattle.presented_checker.proofs.breaking.breaking.Goals as goal

pub returns-in-Some-true : goal.returns-in-Some-true
returns-in-Some-true g c =
    let p = c.args.p.now in
    let broken =
    told
    (λ b. (says : List ℕ → Bool) → AreSaidBy p says
    → (b ≡ true) ↔ BreaksRule c.p.inside.code says c.heaps-2.result.now)
    c.in_ok-rule_fails_at.field-0 c.in-Some-true.field-0 true c.in-Some-true.is c.in-Some-true.field-0-test
    c.in_ok-rule_fails_at.ensures in
    broken_at p c.requires
    (subst (λ (q : PresentedSaid). AreConvergent LETTERS q.relations) c.p.view_is c.rules-rules.ensures.convergent)
    c.args.position
    (subst (IsPosition (HasWord p)) c.heaps.ensures.value (c.if-not-have_words.ensures refl))
    (λ says s.
    subst (BreaksRule p.code says) c.heaps-2.ensures.value
    (subst (λ (q : PresentedSaid). BreaksRule q.code says c.heaps-2.result.now) c.p.view_is ((broken says s).0 refl)))
