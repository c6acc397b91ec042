use Rattle.std.proofs.Common.{[], ◌∙◌, ap, sym, subst}
use Rattle.presentations.specs.declared.TheConstants.{LETTERS}
use Rattle.normal_forms.specs.Reductions.{AreConvergent}
use Rattle.presented_text.specs.Said.{PresentedSaid}
use Rattle.presented_claims.specs.Claims.{in_portion}
use Rattle.class_tables.specs.Leads.{Led}
use Rattle.class_tables.specs.Classes.{AreSaid}
use Rattle.class_tables.proofs.LedClasses.{are-said}
use Rattle.class_tables.proofs.beside.says_word.Goals as goal

pub returns : goal.returns
returns g c =
    let conv = subst (λ (q : PresentedSaid). AreConvergent LETTERS q.relations) c.p.view_is c.rules-rules.ensures.convergent in
    subst (AreSaid c.args.p.now c.args.folds.now c.args.q.now c.args.word.now) (sym (c.in_portion.ensures ∙ ap (λ (l : Led). in_portion c.args.p.now l.to) c.led.view_is))
    (are-said c.args.p.now conv c.args.tops.now c.args.folds.now c.requires.tops c.requires.folds [] c.args.q.now
    c.args.word.now c.in_ok-led.led c.requires.finer c.requires.class c.told-word
    (c.in_ok-led.ensures c.requires.tops.few c.requires.folds.few))
