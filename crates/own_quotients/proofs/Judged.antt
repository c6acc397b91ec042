-- What a check says of a draft is so of the certificate that it spells, which is the table.
use Rattle.std.proofs.Common.{◌≡◌, ℕ, List, refl, subst}
use Rattle.misere_theory.specs.Certificates.{Certificate}
use Rattle.certificate_text.specs.Spelling.{Spells}
use Rattle.answers.specs.ByteVerdicts.{ByteVerdict, Fits, Holds, IsTrueOf, SpellFitting, refused}
use Rattle.misere_theory.specs.Verdicts.Fault.{Law, Word, Order, Period, Apart}
use Rattle.answers.specs.ByteVerdicts.ByteVerdict.{Yes, No, Outcome, Limit}
use Rattle.answers.specs.declared.refusal.Refusal.{Refusal}
use Rattle.answers.specs.declared.refusal.Refusal.TheVariants as no
use Rattle.own_quotients.specs.Tables.{Own}
use Rattle.own_quotients.specs.Carried.{IsCarried}
use Rattle.own_quotients.specs.Certified.{HasCertified, IsNumberingOf, IsRefusedAs}

module _ (unique : (b : List ℕ) (c d : Certificate) → Spells b c → Spells b d → c ≡ d)
    (o : Own) (identity : ℕ) (text numbers elements : List ℕ) (limit : ℕ) where
  pub certified : (c : Certificate) → IsNumberingOf o identity text numbers elements
      → IsTrueOf text limit (Yes c) → HasCertified o text c identity numbers elements
  certified c n t =
      let yes = t.yes c refl in
      record {
        spelled = yes.0;
        accepted = yes.1;
        carried =
            subst (λ (d : Certificate). IsCarried o identity d numbers elements)
            (unique text n.0 c n.1 yes.0) n.2;
      }

  fits : (c : Certificate) (answer : ByteVerdict) → Spells text c → SpellFitting text limit answer
      → Fits c limit answer
  fits c answer s f =
      subst (λ (d : Certificate). Fits d limit answer) (unique text f.0 c f.1 s) f.2

  refusal_fits : {A : Type 0} (c : Certificate) (r : Refusal A) → Spells text c
      → Holds text limit (refused r) → Fits c limit (refused r)
  refusal_fits c no.Text s h = absurd (h c s)
  refusal_fits c no.Law s h = fits c (No Law) s h
  refusal_fits c no.Word s h = fits c (No Word) s h
  refusal_fits c no.Order s h = fits c (No Order) s h
  refusal_fits c no.Period s h = fits c (No Period) s h
  refusal_fits c no.Apart s h = fits c (No Apart) s h
  refusal_fits c (no.Outcome code X) s h = fits c (Outcome code X) s h
  refusal_fits c no.Limit s h = fits c Limit s h
  refusal_fits c no.Memory s h = tt

  pub refusal : {A : Type 0} (r : Refusal A) → IsNumberingOf o identity text numbers elements
      → IsTrueOf text limit (refused r) → IsRefusedAs o limit (refused r)
  refusal r n t = record {
    certificate = n.0;
    identity = identity;
    numbers = numbers;
    elements = elements;
    carried = n.2;
    fits = refusal_fits n.0 r n.1 t.holds;
  }
