use Rattle.std.proofs.Common.{sym, subst, ◌∙◌}
use Rattle.std.proofs.lemmas.Bool.{false≢true}
use Rattle.misere_theory.specs.Games.{HeapOption}
use Rattle.presentations.specs.declared.TheConstants.{LETTERS}
use Rattle.presentations.specs.Congruences.{Related}
use Rattle.presentations.specs.Vectors.{zeros}
use Rattle.normal_forms.specs.Forms.{IsNormalForm}
use Rattle.presented_text.specs.Said.{PresentedSaid}
use Rattle.presented_tables.proofs.Taking.{all-zeros}
use Rattle.class_tables.proofs.tables.is_one_if_idle.Goals as goal

pub returns-then-not-has_word : goal.returns-then-not-has_word
returns-then-not-has_word g c = λ _ has _.
    absurd (false≢true (sym c.if-not-has_word.true ∙ c.has_word.ensures ∙ has))

pub returns-then-has_option : goal.returns-then-has_option
returns-then-has_option g c = λ _ _ none.
    let (H, o) = c.has_option.ensures.0 c.if-has_option.true in
    absurd (none H (subst (λ (q : PresentedSaid). HeapOption q.code c.args.n H) c.p.view_is o))

pub returns-in-Some : goal.returns-in-Some
returns-in-Some g c = λ t _ _.
    let nf = subst (λ (q : PresentedSaid). IsNormalForm LETTERS q.relations c.heap_word.result c.in-Some.form) c.p.view_is
    c.in-Some.ensures.1 in
    subst (λ v. Related LETTERS c.args.p.now.relations v (zeros LETTERS)) c.heap_word.ensures
    (subst (Related LETTERS c.args.p.now.relations c.heap_word.result)
    (all-zeros LETTERS c.in-Some.form c.is_in.ensures.long (c.is_in.ensures.within.0 t)) nf.related)
