-- What it shows that a word leads a class.
use Rattle.std.proofs.Common.{◌≡◌, ℕ, ◌<◌, Bool, List, length, sym, ◌∙◌, ap}
use Rattle.std.specs.Prelude.{nat_eq}
use Rattle.std.specs.List.{list_any}
use Rattle.std.specs.Cmp.Lexicographic.{pointwise}
use Rattle.presentations.specs.declared.TheConstants.{LETTERS}
use Rattle.presentations.specs.Vectors.{plus, only}
use Rattle.presentations.specs.Congruences.{Related}
use Rattle.presentations.specs.Congruences.Related.{Chained}
use Rattle.presentations.proofs.VectorLaws.{length-only}
use Rattle.normal_forms.specs.Reductions.{AreConvergent}
use Rattle.normal_forms.specs.Forms.{IsNormalForm, NormalForms}
use Rattle.normal_forms.proofs.Words.{length-sum}
use Rattle.normal_forms.proofs.Confluence.{one-form, same-forms}
use Rattle.normal_forms.proofs.Steps.{forms}
use Rattle.presented_text.specs.Said.{PresentedSaid}
use Rattle.presented_claims.specs.Claims.{IsElement, in_portion, cycled}
use Rattle.presented_claims.specs.Folds.{at_letter, AreFiner}
use Rattle.presented_claims.proofs.Folds.{folded-finer}
use Rattle.presented_claims.specs.Led.{IsLed, RunsOn}
use Rattle.presented_claims.proofs.Carried.{carried}
use Rattle.class_tables.specs.Leads.{Led, turn_of, Leads}
use Rattle.class_tables.specs.Classes.{AreFolds, IsOfClass, HaveFold, AreSaid}

module _ (c : PresentedSaid) (conv : AreConvergent LETTERS c.relations) where
  abbrev pub is-led : (F : NormalForms LETTERS c.relations) (tops folds : List (ℕ × ℕ)) (weights a z : List ℕ) (l : Led)
      → length a ≡ LETTERS → length z ≡ LETTERS → Leads c tops folds weights a z l
      → IsLed LETTERS F.form tops folds weights a z
  is-led F tops folds weights a z l a_long z_long leads =
      let sum_long = length-sum LETTERS a z a_long z_long in
      let to_long = leads.to.standard.long in
      record {
        to = l.to;
        is = one-form LETTERS c.relations conv (plus a z) (F.form (plus a z)) l.to sum_long (F.is (plus a z) sum_long) leads.to;
        turns = turn_of l;
        turned = λ j run.
            let t = leads.turns j run in
            let step_long = length-sum LETTERS l.to (only LETTERS j (at_letter folds j).1) to_long
            (length-only LETTERS j (at_letter folds j).1) in
            let turn_long = length-sum LETTERS l.to (turn_of l j) to_long t.whole.long in
            same-forms LETTERS c.relations conv (plus l.to (only LETTERS j (at_letter folds j).1)) (plus l.to (turn_of l j))
            (F.form (plus l.to (only LETTERS j (at_letter folds j).1))) (F.form (plus l.to (turn_of l j))) t.turned
            (F.is (plus l.to (only LETTERS j (at_letter folds j).1)) step_long) (F.is (plus l.to (turn_of l j)) turn_long);
        whole = λ j run. (leads.turns j run).whole;
        light = λ j run. (leads.turns j run).light;
      }

  module _ (tops folds : List (ℕ × ℕ)) (tops_are : AreFolds c tops) (folds_are : AreFolds c folds) where
    pub have-fold : (weights a z : List ℕ) (l : Led) → IsElement c a → length z ≡ LETTERS
        → Leads c tops folds weights a z l → HaveFold c folds tops a z (cycled tops l.to)
    have-fold weights a z l a_in z_long leads x u of nf =
        let F : NormalForms LETTERS c.relations = forms LETTERS c.relations conv.oriented in
        let led = is-led F tops folds weights a z l a_in.standard.long z_long leads in
        let x_long = of.element.standard.long in
        let long = length-sum LETTERS x z x_long z_long in
        ap (cycled tops)
        (one-form LETTERS c.relations conv (plus x z) u (F.form (plus x z)) long nf (F.is (plus x z) long))
        ∙ carried LETTERS c.relations conv F tops folds folds_are.few tops_are.above weights a z a_in.standard z_long led
        folds_are.periods x x_long of.fold

    pub are-said : (weights a z : List ℕ) (l : Led) → AreFiner tops c.cycles → IsElement c a → length z ≡ LETTERS
        → Leads c tops folds weights a z l → AreSaid c folds a z (in_portion c l.to)
    are-said weights a z l fine a_in z_long leads x u of nf =
        ap (λ w. list_any (pointwise nat_eq w) c.portion)
        (sym (folded-finer tops c.cycles u fine)
        ∙ ap (cycled c.cycles) (have-fold weights a z l a_in z_long leads x u of nf)
        ∙ folded-finer tops c.cycles l.to fine)
