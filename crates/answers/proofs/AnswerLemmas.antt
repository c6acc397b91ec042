-- Which answers are true of bytes that spell a certificate.
use Rattle.std.proofs.Common.{◌≡◌, ℕ, ◌*◌, ◌^◌, ◌≤◌, ◌⊎◌, List, refl, sym, ap, subst, inl, inr}
use Rattle.misere_theory.specs.Quotients.{Monoid, Represents}
use Rattle.misere_theory.specs.Certificates.{Certificate, kind_of, IsHeapOf, Accepted, Canonical, claim_of, times_of}
use Rattle.misere_theory.specs.Verdicts.{Verdict, IsAllowed}
use Rattle.misere_theory.proofs.Verdicts.{yes_or_limit, outcome_or_limit, never_past_all_pairs}
use Rattle.certificate_text.specs.Spelling.{Spells}
use Rattle.answers.specs.ByteVerdicts.{ByteVerdict, Fits, Holds, IsTrueOf}
use Rattle.answers.specs.ByteVerdicts.ByteVerdict.{Yes, Text, No, Outcome, Limit, Memory}

module _ (one : (b : List ℕ) (c d : Certificate) → Spells b c → Spells b d → c ≡ d) (bytes : List ℕ)
    (limit : ℕ) (c : Certificate) (s : Spells bytes c) where
  fits : (a : ByteVerdict) → (d : Certificate) × Spells bytes d × Fits d limit a → Fits c limit a
  fits a (d, t, f) = subst (λ e. Fits e limit a) (one bytes d c t s) f

  pub accepted_answers : Accepted c → (a : ByteVerdict) → Holds bytes limit a
      → (a ≡ Yes c) ⊎ ((a ≡ Limit) ⊎ (a ≡ Memory))
  accepted_answers k (Yes d) t = inl (ap Yes (fits (Yes d) t).0)
  accepted_answers k Text t = absurd (t c s)
  accepted_answers k (No fault) t =
      elim (yes_or_limit c k limit (Verdict.No fault) (fits (No fault) t))
      [ inl e ↦ absurd (cc) | inr e ↦ absurd (cc) ]
  accepted_answers k (Outcome code X) t =
      elim (yes_or_limit c k limit (Verdict.Outcome X) (fits (Outcome code X) t).1)
      [ inl e ↦ absurd (cc) | inr e ↦ absurd (cc) ]
  accepted_answers k Limit t = inr (inl refl)
  accepted_answers k Memory t = inr (inr refl)

  module _ (m : Monoid c.order (times_of c)) (k : Canonical c)
      (wrong : Represents (IsHeapOf c) c.code (claim_of c) → ⊥) where
    never_a_fault : {A : Type 0} (v : Verdict) → ((X : List ℕ) → v ≡ Verdict.Outcome X → ⊥) → (v ≡ Verdict.Limit → ⊥)
        → IsAllowed c limit v → A
    never_a_fault v n o h =
        elim (outcome_or_limit c s.writable.in_ranges m k wrong limit v h)
        [ inl p ↦ absurd (n p.0 p.1) | inr e ↦ absurd (o e) ]

    pub wrong_answers : (a : ByteVerdict) → Holds bytes limit a → ((X : List ℕ) × (a ≡ Outcome c.code X))
        ⊎ ((a ≡ Limit) ⊎ (a ≡ Memory))
    wrong_answers (Yes d) t = absurd (wrong (fits (Yes d) t).1.represents)
    wrong_answers Text t = absurd (t c s)
    wrong_answers (No fault) t = never_a_fault (Verdict.No fault) (λ X e. cc) (λ e. cc) (fits (No fault) t)
    wrong_answers (Outcome code X) t = inl (X, ap (λ d. Outcome d X) (fits (Outcome code X) t).0)
    wrong_answers Limit t = inr (inl refl)
    wrong_answers Memory t = inr (inr refl)

  pub never_limit : c.order * 2 ^ c.order ≤ limit → Holds bytes limit Limit → ⊥
  never_limit l t = never_past_all_pairs c s.writable.in_ranges limit l (fits Limit t)

pub true_answer : (one : (b : List ℕ) (c d : Certificate) → Spells b c → Spells b d → c ≡ d)
    (text : (a b : List ℕ) (c d : Certificate) → Spells a c → Spells b d → Accepted c → Accepted d
    → c.code ≡ d.code → kind_of c ≡ kind_of d → a ≡ b)
    (bytes : List ℕ) (limit : ℕ) (a : ByteVerdict) → Holds bytes limit a → IsTrueOf bytes limit a
true_answer one text bytes limit a h = record {
  holds = h;
  yes = λ c e.
      let (d, t, f) = subst (Holds bytes limit) e h in
      let spelled = subst (Spells bytes) (sym f.0) t in
      let accepted = subst Accepted (sym f.0) f.1 in
      (spelled, accepted, λ other o s k same kind. text other bytes o c s spelled k accepted same kind);
  accepted = λ c s k. accepted_answers one bytes limit c s k a h;
  wrong = λ c s m k w. wrong_answers one bytes limit c s m k w a h;
  within = λ c s l e. never_limit one bytes limit c s l (subst (Holds bytes limit) e h);
}
