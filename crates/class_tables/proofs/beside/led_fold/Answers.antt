use Rattle.std.proofs.Common.{[], ◌∙◌, ap, sym, subst}
use Rattle.presentations.specs.declared.TheConstants.{LETTERS}
use Rattle.normal_forms.specs.Reductions.{AreConvergent}
use Rattle.presented_text.specs.Said.{PresentedSaid}
use Rattle.presented_claims.specs.Claims.{cycled}
use Rattle.class_tables.specs.Leads.{Led}
use Rattle.class_tables.specs.Classes.{HaveFold}
use Rattle.class_tables.proofs.LedClasses.{have-fold}
use Rattle.class_tables.proofs.beside.led_fold.Goals as goal

pub returns : goal.returns
returns g c =
    let conv = subst (λ (q : PresentedSaid). AreConvergent LETTERS q.relations) c.p.view_is c.rules-rules.ensures.convergent in
    subst (HaveFold c.args.p.now c.args.folds.now c.args.tops.now c.args.q.now c.args.word.now) (sym (c.cycled_word.ensures ∙ ap (λ (l : Led). cycled c.args.tops.now l.to) c.led.view_is))
    (have-fold c.args.p.now conv c.args.tops.now c.args.folds.now c.requires.tops c.requires.folds [] c.args.q.now
    c.args.word.now c.in_ok-led.led c.requires.class c.told-word
    (c.in_ok-led.ensures c.requires.tops.few c.requires.folds.few))
