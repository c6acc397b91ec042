use Rattle.std.proofs.Common.{subst}
use Rattle.presentations.specs.declared.TheConstants.{LETTERS}
use Rattle.normal_forms.specs.Forms.{IsNormalForm}
use Rattle.presented_text.specs.Said.{PresentedSaid}
use Rattle.presented_tables.proofs.Taking.{letter-takes}
use Rattle.presented_tables.proofs.standing.takes.Goals as goal

pub returns : goal.returns
returns g c = λ t.
    letter-takes c.args.p.now c.args.e.now c.args.x c.args.y c.args.i c.in-Some.word
    c.in-Some-with_letter.more c.in-Some-normal_form.form c.in-Some-word_at.there c.in-Some.ensures.1
    c.in-Some-word_at.ensures.1 c.in-Some-word_at.ensures.0 c.in-Some-with_letter.ensures
    (subst (λ (q : PresentedSaid). IsNormalForm LETTERS q.relations c.in-Some-with_letter.more
    c.in-Some-normal_form.form) c.p.view_is c.in-Some-normal_form.ensures.1) (c.is_word.ensures.0 t)
