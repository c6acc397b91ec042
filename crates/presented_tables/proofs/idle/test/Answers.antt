use Rattle.std.proofs.Common.{sym, subst, ◌∙◌}
use Rattle.std.proofs.lemmas.Bool.{false≢true}
use Rattle.misere_theory.specs.Games.{HeapOption}
use Rattle.normal_forms.specs.Forms.{IsIn}
use Rattle.presented_text.specs.Said.{PresentedSaid}
use Rattle.presented_tables.proofs.Taking.{idle-one, idle-other}
use Rattle.presented_tables.proofs.idle.test.Goals as goal

pub returns-then-not-has_word-clause-one : goal.returns-then-not-has_word-clause-one
returns-then-not-has_word-clause-one g c = λ has _.
    absurd (false≢true (sym c.if-not-has_word.true ∙ c.has_word.ensures ∙ has))

pub returns-then-has_option-clause-one : goal.returns-then-has_option-clause-one
returns-then-has_option-clause-one g c = λ _ none.
    let (H, o) = c.has_option.ensures.0 c.if-has_option.true in
    absurd (none H (subst (λ (q : PresentedSaid). HeapOption q.code c.args.n H) c.p.view_is o))

pub returns-then-is_in-clause-one : goal.returns-then-is_in-clause-one
returns-then-is_in-clause-one g c = λ _ _.
    idle-one c.args.p.now c.args.e.now c.requires c.args.n c.in-Some.y c.in-Some.ensures
    (subst (IsIn 0) c.in-Some-word_at.ensures.1 (c.is_in.ensures.within.0 c.if-is_in.true))

pub returns-else-is_in-clause-fault : goal.returns-else-is_in-clause-fault
returns-else-is_in-clause-fault g c = record {
  has = sym c.has_word.ensures ∙ c.if-not-has_word.false;
  idle =
      λ H o. false≢true (sym c.if-has_option.false
      ∙ c.has_option.ensures.1 (H, subst (λ (q : PresentedSaid). HeapOption q.code c.args.n H) (sym c.p.view_is) o));
  other =
      idle-other c.args.p.now c.args.e.now c.requires c.args.n c.in-Some.y c.in-Some.ensures
      (λ z. false≢true (sym c.if-is_in.false
      ∙ c.is_in.ensures.within.1 (subst (IsIn 0) (sym c.in-Some-word_at.ensures.1) z)));
}
