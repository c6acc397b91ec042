-- Elements that take exactly one of two values into the portion tell positions apart.
use Rattle.std.proofs.Common.{◌≡◌, ◌≢◌, ◌↔◌, ◌∙◌, ◌+◌, ◌<◌, arith, ℕ, Bool, true, false, List, ◌++◌, ap, sym, refl, subst, inl, inr, not}
use Rattle.std.specs.Bool.{beq}
use native.Mathlib.Decide.{dec_lt}
use Rattle.misere_theory.specs.Certificates.{Accepted, Certificate, IsHeapOf, TellsApart, claim_of}
use Rattle.misere_theory.specs.Games.{Indistinguishable, IsN, IsP, IsPosition}
use Rattle.misere_theory.specs.Quotients.{Claim, value}
use Rattle.misere_theory.proofs.Outcomes.{determined}
use Rattle.misere_theory.proofs.Sums.{IsPosition-append, value_in, value-append}
use Rattle.positions.specs.declared.outcome.Outcome.{Outcome}
use Rattle.positions.specs.declared.outcome.Outcome.TheVariants.{P}

same_if_not_other : (a b : Bool) → (a ≢ b → ⊥) → a ≡ b
same_if_not_other true true h = refl
same_if_not_other false false h = refl
same_if_not_other true false h = absurd (h (λ e. cc))
same_if_not_other false true h = absurd (h (λ e. cc))

module _ (c : Certificate) (yes_to : Accepted c) where
  abbrev C : Claim
  C = claim_of c

  -- the value of a sum
  pub sum_value : (X Z : List ℕ) → IsPosition (IsHeapOf c) X → IsPosition (IsHeapOf c) Z
      → value C (X ++ Z) ≡ C.times (value C X) (value C Z)
  sum_value X Z p q =
      value-append (IsHeapOf c) C yes_to.represents.monoid yes_to.represents.elements X Z p q

  -- a sum is P exactly if the product of the values is in the portion
  pub sum_is_p : (X Z : List ℕ) → IsPosition (IsHeapOf c) X → IsPosition (IsHeapOf c) Z
      → IsP c.code (X ++ Z) ↔ (C.portion (C.times (value C X) (value C Z)) ≡ true)
  sum_is_p X Z p q =
      let both = yes_to.represents.predicts (X ++ Z) (IsPosition-append (IsHeapOf c) X Z p q) in
      let same = ap C.portion (sum_value X Z p q) in
      (λ w. sym same ∙ both.0 w, λ e. both.1 (same ∙ e))

  module _ (X Y : List ℕ) (p : IsPosition (IsHeapOf c) X) (q : IsPosition (IsHeapOf c) Y) where
    -- a third position whose value doesn't tell the values apart
    pub alike_beside : (Z : List ℕ) → IsPosition (IsHeapOf c) Z
        → (TellsApart C (value C X, value C Y) (value C Z) → ⊥)
        → IsP c.code (X ++ Z) ↔ IsP c.code (Y ++ Z)
    alike_beside Z z none =
        let same =
        same_if_not_other (C.portion (C.times (value C X) (value C Z)))
        (C.portion (C.times (value C Y) (value C Z))) none
        in
        let one = sum_is_p X Z p z in
        let other = sum_is_p Y Z q z in
        (λ w. other.1 (sym same ∙ one.0 w), λ w. one.1 (same ∙ other.0 w))

    -- no element tells them apart, so no position does
    pub indistinguishable : (x y : ℕ) → x ≡ value C X → y ≡ value C Y
        → ((z : ℕ) → z < c.order → TellsApart C (x, y) z → ⊥)
        → Indistinguishable (IsHeapOf c) c.code X Y
    indistinguishable x y e f none Z z =
        alike_beside Z z
        (λ told. none (value C Z)
        (value_in (IsHeapOf c) C yes_to.represents.monoid yes_to.represents.elements Z z)
        (subst (λ v. TellsApart C (v, y) (value C Z)) (sym e)
        (subst (λ v. TellsApart C (value C X, v) (value C Z)) (sym f) told)))

both_in : (a b : Bool) → ((a ≡ true) ↔ (b ≡ true)) → a ≡ b
both_in true b h = sym (h.0 refl)
both_in false true h = h.1 refl
both_in false false h = refl

-- outcomes that are told by the portion differ if the portion tells the values apart
pub outcomes_differ : (a b : Bool) (one other : Outcome) → ((one ≡ P) ↔ (a ≡ true))
    → ((other ≡ P) ↔ (b ≡ true)) → a ≢ b → one ≢ other
outcomes_differ a b one other f g apart same =
    apart (both_in a b (λ e. g.0 (sym same ∙ f.1 e), λ e. f.0 (same ∙ g.1 e)))

-- a position whose value isn't in the portion is N
pub n_here : (c : Certificate) (yes_to : Accepted c) (X : List ℕ) (e : ℕ) (b : Bool)
    → IsPosition (IsHeapOf c) X → value (claim_of c) X ≡ e → b ≡ (claim_of c).portion e → b ≡ false
    → IsN c.code X
n_here c yes_to X e b p is same out = elim (determined c.code X) [
  | inl w ↦
      let bad : false ≡ true =
      sym out ∙ same ∙ sym (ap (claim_of c).portion is) ∙ (yes_to.represents.predicts X p).0 w in
      cc
  | inr n ↦ n
]

-- equal by the test of equality
pub same_by : (a b : Bool) → not (beq a b) ≡ false → a ≡ b
same_by true true e = refl
same_by false false e = refl
same_by true false e = cc
same_by false true e = cc

-- one element more that doesn't tell two apart
pub none_more : (c : Certificate) (x y z : ℕ) (a b : Bool)
    → a ≡ (claim_of c).portion ((claim_of c).times x z)
    → b ≡ (claim_of c).portion ((claim_of c).times y z) → a ≡ b
    → ((w : ℕ) → w < z → TellsApart (claim_of c) (x, y) w → ⊥)
    → (w : ℕ) → w < z + 1 → TellsApart (claim_of c) (x, y) w → ⊥
none_more c x y z a b one other same none w l told = elim (dec_lt w z) [
  | yes less ↦ none w less told
  | no f ↦
      let e : w ≡ z = omega (arith, f, l) in
      subst (λ v. TellsApart (claim_of c) (x, y) v) e told (sym one ∙ same ∙ other)
]
