-- A code and its heaps have one presentation at most.
use Rattle.std.proofs.Common.{◌≡◌, ℕ, true, List, length, Option, None, Some, refl, sym, ap, subst}
use Rattle.std.specs.Prelude.{is_some}
use Rattle.std.specs.Cmp.{both_ways}
use Rattle.std.proofs.lemmas.Bool.{true≢false}
use Rattle.presentations.specs.declared.TheConstants.{LETTERS}
use Rattle.normal_forms.specs.Forms.{AreIn}
use Rattle.presented_text.specs.Said.{PresentedSaid}
use Rattle.presented_claims.specs.Claims.{has_word, word_or_one, in_portion}
use Rattle.presented_forms.specs.Only.{IsOnly}
use Rattle.presented_forms.proofs.Bases.{Carries, one-basis}
use Rattle.presented_forms.proofs.OnePortion.{one-cycles, one-portion}
use Rattle.presented_forms.proofs.One.{IsGiven, form_of, one-letters, relations-carried, portion-carried, same-word-of}
use Rattle.presented_forms.proofs.Heaps.{heard, one-list}

same-option : (o p : Option (List ℕ)) → is_some o ≡ is_some p
    → (is_some o ≡ true → word_or_one o ≡ word_or_one p) → o ≡ p
same-option None None e same = refl
same-option None (Some v) e same = absurd (true≢false (sym e))
same-option (Some w) None e same = absurd (true≢false e)
same-option (Some w) (Some v) e same = ap Some (same refl)

module _
    (c d : PresentedSaid) (gc : IsGiven c) (gd : IsGiven d) (code : c.code ≡ d.code)
    (heaps : (n : ℕ) → has_word c n ≡ has_word d n) (letters : c.letters ≡ d.letters) where
  relations : c.relations ≡ d.relations
  relations =
      one-basis (length c.letters) c.relations d.relations gc.presents.converges gd.presents.converges
      (form_of c gc) (form_of d gd) gc.least.within.relations
      (subst (λ l. AreIn (length l) d.relations) (sym letters) gd.least.within.relations)
      gc.form.reduced gd.form.reduced gc.form.in_order gd.form.in_order
      (relations-carried c d gc gd code heaps letters)
      (subst (λ l. Carries LETTERS (length l) d.relations c.relations) (sym letters)
      (relations-carried d c gd gc (sym code) (λ n. sym (heaps n)) (sym letters)))

  both : (w : List ℕ) → length w ≡ LETTERS → in_portion c w ≡ in_portion d w
  both w long =
      both_ways (in_portion c w) (in_portion d w)
      (portion-carried c d gc gd code heaps letters relations w long)
      (portion-carried d c gd gc (sym code) (λ n. sym (heaps n)) (sym letters) (sym relations) w long)

  options : (n : ℕ) → heard c n ≡ heard d n
  options n =
      same-option (heard c n) (heard d n) (heaps n)
      (λ has. same-word-of c d gc gd code heaps letters relations n has)

  pub same-letters : c ≡ d
  same-letters = λ i. record {
    code = code i;
    heaps = list.0 i;
    period = list.1 i;
    letters = letters i;
    words = list.2 i;
    relations = relations i;
    cycles = cycles i;
    portion = portion i;
  }
    where
      list : (c.heaps ≡ d.heaps) × (c.period ≡ d.period) × (c.words ≡ d.words)
      list = one-list c d gc.ranges gd.ranges gc.least.list gd.least.list options

      cycles : c.cycles ≡ d.cycles
      cycles = one-cycles c d gc.ranges gd.ranges gc.form gd.form gc.least gd.least (ap length letters) both

      portion : c.portion ≡ d.portion
      portion = one-portion c d gc.ranges gd.ranges gc.form gd.form gc.least gd.least (ap length letters) both

pub one-presentation : (c d : PresentedSaid) → IsGiven c → IsGiven d → IsOnly c → IsOnly d → c.code ≡ d.code
    → ((n : ℕ) → has_word c n ≡ has_word d n) → c ≡ d
one-presentation c d gc gd oc od code heaps =
    same-letters c d gc gd code heaps (one-letters c d gc gd oc od code heaps)
