-- What each answer to a certificate says of the others, and of a certificate that is accepted or
-- isn't.
-- By cases of the answer.
use Rattle.std.proofs.Common.{◌≡◌, ℕ, ◌*◌, ◌^◌, ◌<◌, ◌≤◌, ◌⊎◌, List, length, ◌-◌, refl, ap, inl, inr, arith}
use Rattle.misere_theory.specs.Games.{IsPosition}
use Rattle.misere_theory.specs.Quotients.{Monoid, Represents, RuleFails, GivesElements}
use Rattle.misere_theory.specs.Certificates.{Certificate, claim_of, times_of, kind_of, IsHeapOf, InRanges, Canonical, Accepted}
use Rattle.misere_theory.specs.Verdicts.{Fault, fault_number, HasFault, Verdict, IsAllowed}
use Rattle.misere_theory.specs.Verdicts.Fault.{Law, Word, Order, Period, Apart}
use Rattle.misere_theory.specs.Verdicts.Verdict.{Yes, No, Outcome, Limit}
use Rattle.misere_theory.proofs.Basics.{neither_smaller}
use Rattle.misere_theory.proofs.Counting.{kept_in}
use Rattle.misere_theory.proofs.Rules.{predicts_from_rule, rule_from_predicts, rule_decided, rule_not_both, represents}
use Rattle.misere_theory.proofs.Written.{phi_in, periodic, all_apart}
use Rattle.misere_theory.proofs.Spelled.{reached}
use Rattle.misere_theory.proofs.Monoids.{no_law_fails, monoid_in_ranges}
use Rattle.misere_theory.proofs.FaultLemmas.{canonical_from_none, no_word_fault, no_order_fault, no_period_fault, no_apart_fault}
use Rattle.misere_theory.proofs.PairCounts.{reach_bound}
use Rattle.misere_theory.proofs.Decided.{holds_or_fails}

pub no_fault : (c : Certificate) → InRanges c → Monoid c.order (times_of c) → Canonical c
    → (fault : Fault) → HasFault c fault → ⊥
no_fault c r m k Law h = no_law_fails m h
no_fault c r m k Word h = no_word_fault c r k h
no_fault c r m k Order h = no_order_fault c r k h
no_fault c r m k Period h = no_period_fault c r k h
no_fault c r m k Apart h = no_apart_fault c r k h

pub faultless : (c : Certificate) → InRanges c → ((fault : Fault) → HasFault c fault → ⊥)
    → Monoid c.order (times_of c) × Canonical c
faultless c r none = (
  monoid_in_ranges c r (none Law),
  canonical_from_none c r (none Word) (none Order) (none Period)
      (none Apart),
)

pub same_number : (a b : Fault) → fault_number a ≡ fault_number b → a ≡ b
same_number Law Law e = refl
same_number Word Word e = refl
same_number Order Order e = refl
same_number Period Period e = refl
same_number Apart Apart e = refl
same_number a b e = absurd (omega arith)

module _ (c : Certificate) (a : Accepted c) where
  -- the rule fails at no position of an accepted certificate
  pub never_fails : (X : List ℕ) → IsPosition (IsHeapOf c) X → RuleFails c.code (claim_of c) X → ⊥
  never_fails X p f =
      rule_not_both c.code (claim_of c) X
      (rule_from_predicts (IsHeapOf c) c.code (claim_of c) (kept_in (kind_of c) c.code) a.represents.predicts X p)
      f

  pub yes_or_limit : (limit : ℕ) (v : Verdict) → IsAllowed c limit v → (v ≡ Yes) ⊎ (v ≡ Limit)
  yes_or_limit limit Yes h = inl refl
  yes_or_limit limit (No fault) h =
      absurd (no_fault c a.in_ranges a.represents.monoid a.canonical fault h.0)
  yes_or_limit limit (Outcome X) h = absurd (never_fails X h.2 h.3)
  yes_or_limit limit Limit h = inr refl

module _ (c : Certificate) (r : InRanges c) (m : Monoid c.order (times_of c)) (k : Canonical c)
  where
    -- where the rule fails at no position the claim is the quotient
    pub accepted_from_no_failure : ((X : List ℕ) → IsPosition (IsHeapOf c) X
        → RuleFails c.code (claim_of c) X → ⊥) → Accepted c
    accepted_from_no_failure none =
        let claim = claim_of c in
        let inside : GivesElements (IsHeapOf c) claim = λ n _. phi_in c r n in
        record {
          in_ranges = r;
          canonical = k;
          represents = represents (IsHeapOf c) c.code claim m inside
              (predicts_from_rule (IsHeapOf c) c.code claim (kept_in (kind_of c) c.code)
              (λ X p.
              elim (rule_decided c.code claim X) [ inl h ↦ h | inr f ↦ absurd (none X p f) ]))
              (reached c r m k)
              (all_apart c k.apart);
        }

    -- so it is accepted, or the rule fails at a position
    pub accepted_or_fails : Accepted c
        ⊎ ((X : List ℕ) × IsPosition (IsHeapOf c) X × RuleFails c.code (claim_of c) X)
    accepted_or_fails =
        elim (holds_or_fails (kind_of c) c.code (claim_of c) m (λ n _. phi_in c r n) (length c.code - 1) c.start
        c.period (periodic c r)) [
          | inl holds ↦ inl
              (accepted_from_no_failure
              (λ X p f. rule_not_both c.code (claim_of c) X (holds X p) f))
          | inr fails ↦ inr fails
        ]

    pub outcome_or_limit : (Represents (IsHeapOf c) c.code (claim_of c) → ⊥) → (limit : ℕ) (v : Verdict)
        → IsAllowed c limit v
        → ((X : List ℕ) × (v ≡ Outcome X)) ⊎ (v ≡ Limit)
    outcome_or_limit not limit Yes h = absurd (not h.represents)
    outcome_or_limit not limit (No fault) h = absurd (no_fault c r m k fault h.0)
    outcome_or_limit not limit (Outcome X) h = inl (X, refl)
    outcome_or_limit not limit Limit h = inr refl

pub never_past_all_pairs : (c : Certificate) → InRanges c → (limit : ℕ)
    → c.order * 2 ^ c.order ≤ limit → IsAllowed c limit Limit → ⊥
never_past_all_pairs c r limit l h =
    let b =
    reach_bound (IsHeapOf c) c.code (kept_in (kind_of c) c.code) (claim_of c) h.0 (λ n _. phi_in c r n) limit
    h.2 in
    omega arith

-- a certificate with a fault has one first fault, and no other answer
pub fault_alone : (c : Certificate) → InRanges c → (fault : Fault) (limit other : ℕ) (v : Verdict)
    → IsAllowed c limit (No fault)
    → IsAllowed c other v → v ≡ No fault
fault_alone c r fault limit other Yes h a =
    absurd (no_fault c r a.represents.monoid a.canonical fault h.0)
fault_alone c r fault limit other (No found) h a =
    let not_less : fault_number found < fault_number fault → ⊥ = λ l. h.1 found l a.0 in
    let not_more : fault_number fault < fault_number found → ⊥ = λ l. a.1 fault l h.0 in
    ap No (same_number found fault
    (neither_smaller (fault_number found) (fault_number fault) not_less not_more))
fault_alone c r fault limit other (Outcome X) h a = absurd (no_fault c r a.0 a.1 fault h.0)
fault_alone c r fault limit other Limit h a = absurd (no_fault c r a.0 a.1 fault h.0)
