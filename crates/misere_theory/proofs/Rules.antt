-- The local rule at every position, and what the portion predicts: the laws of labels, said of elements.
use Rattle.std.proofs.Common.{◌≡◌, ℕ, ◌<◌, ◌⊎◌, ◌↔◌, Bool, true, false, List, refl, sym, ◌∙◌, subst, inl, inr}
use Rattle.misere_theory.specs.Games.{Move, IsP, IsPosition}
use Rattle.misere_theory.specs.Quotients.{Claim, Monoid, GivesElements, value, OptionValue, RuleHolds, RuleFails, Represents, AllApart}
use Rattle.misere_theory.specs.Parts.{IsPart}
use Rattle.misere_theory.specs.Labels.{ObeysRule, BreaksRule, RepresentsBy, over_elements}
use Rattle.misere_theory.proofs.Sums.{value_is, elements_are_labels}
use Rattle.misere_theory.proofs.LocalRule.{obeyed_where_right, not_obeyed_and_broken, obeyed_or_broken, right_by_rule, rule_of_right}
use Rattle.misere_theory.proofs.LabelLaws.{represents_by}
use Rattle.misere_theory.proofs.Basics.{neither_smaller}

module _ (code : List ℕ) (c : Claim) where
  -- what the claim says of a position
  abbrev pub said : List ℕ → Bool
  said X = c.portion (value c X)

  out_of : (X : List ℕ) → ((Y : List ℕ) → Move code X Y → said Y ≡ false) → (x : ℕ)
      → OptionValue code c X x → c.portion x ≡ false
  out_of X all x o = subst (λ v. c.portion v ≡ false) o.2 (all o.0 o.1)

  obeyed : (X : List ℕ) → RuleHolds code c X → ObeysRule code said X
  obeyed X h = (
    λ t. let ((x, (Y, i, e)), all) = h.0 t in ((Y, i), λ Z j. all (value c Z) (Z, j, refl)),
    λ r. let ((Y, i), all) = r in h.1 ((value c Y, (Y, i, refl)), out_of X all),
  )

  pub holds : (X : List ℕ) → ObeysRule code said X → RuleHolds code c X
  holds X o = (
    λ t. let ((Y, i), all) = o.0 t in ((value c Y, (Y, i, refl)), out_of X all),
    λ r. let ((x, (Y, i, e)), all) = r in o.1 ((Y, i), λ Z j. all (value c Z) (Z, j, refl)),
  )

  broken : (X : List ℕ) → RuleFails code c X → BreaksRule code said X
  broken X (inl (t, inl none)) = inl (t, inl (λ Y i. none (value c Y) (Y, i, refl)))
  broken X (inl (t, inr (x, (Y, i, e), u))) =
      inl (t, inr (Y, i, subst (λ v. c.portion v ≡ true) (sym e) u))
  broken X (inr (f, (x, (Y, i, e)), all)) = inr (f, (Y, i), λ Z j. all (value c Z) (Z, j, refl))

  fails : (X : List ℕ) → BreaksRule code said X → RuleFails code c X
  fails X (inl (t, inl none)) = inl (t, inl (λ x o. none o.0 o.1))
  fails X (inl (t, inr (Y, i, u))) = inl (t, inr (value c Y, (Y, i, refl), u))
  fails X (inr (f, (Y, i), all)) = inr (f, (value c Y, (Y, i, refl)), out_of X all)

  -- the rule holds or fails at a position, and not both
  pub rule_not_both : (X : List ℕ) → RuleHolds code c X → RuleFails code c X → ⊥
  rule_not_both X h f = not_obeyed_and_broken code said X (obeyed X h) (broken X f)

  pub rule_decided : (X : List ℕ) → RuleHolds code c X ⊎ RuleFails code c X
  rule_decided X =
      elim (obeyed_or_broken code said X) [ inl o ↦ inl (holds X o) | inr b ↦ inr (fails X b) ]

  -- where the rule fails the portion mispredicts the position or one of its options
  pub mispredicts : (X : List ℕ) → RuleFails code c X → IsP code X ↔ (said X ≡ true)
      → ((Y : List ℕ) → Move code X Y → IsP code Y ↔ (said Y ≡ true))
      → ⊥
  mispredicts X f here there =
      not_obeyed_and_broken code said X (obeyed_where_right code said X there here) (broken X f)

module _ (heap : ℕ → Type 0) (code : List ℕ) (c : Claim) (part : IsPart heap code) where
  -- the local rule at each position makes the portion predict each outcome
  pub predicts_from_rule : ((X : List ℕ) → IsPosition heap X → RuleHolds code c X) → (X : List ℕ)
      → IsPosition heap X
      → IsP code X ↔ (c.portion (value c X) ≡ true)
  predicts_from_rule rule =
      right_by_rule heap code part (said code c) (λ X w. obeyed code c X (rule X w))

  -- a portion that predicts each outcome obeys the local rule at each position
  pub rule_from_predicts : ((X : List ℕ) → IsPosition heap X
      → IsP code X ↔ (c.portion (value c X) ≡ true)) → (X : List ℕ)
      → IsPosition heap X → RuleHolds code c X
  rule_from_predicts predicts X w =
      holds code c X (rule_of_right heap code part (said code c) predicts X w)

-- a quotient by labels that are elements is one by elements, and the other way round
module _ (heap : ℕ → Type 0) (code : List ℕ) (c : Claim) where
  pub of_labels : RepresentsBy (λ x. x < c.order) heap code (over_elements c) → Represents heap code c
  of_labels r = record {
    monoid = record {
      some = r.monoid.some;
      closed = r.monoid.closed;
      identity = r.monoid.identity;
      commutes = r.monoid.commutes;
      associates = r.monoid.associates;
    };
    elements = r.labels;
    predicts = λ X p. subst (λ v. IsP code X ↔ (c.portion v ≡ true)) (value_is c X) (r.predicts X p);
    indistinguishable = λ X Y p q. let s = r.indistinguishable X Y p q in (
      λ a. sym (value_is c X) ∙ s.0 a ∙ value_is c Y,
      λ e. s.1 (value_is c X ∙ e ∙ sym (value_is c Y)),
    );
    reached = λ x l. let (X, p, e) = r.reached x l in (X, p, sym (value_is c X) ∙ e);
  }

  pub over_labels : Represents heap code c → RepresentsBy (λ x. x < c.order) heap code (over_elements c)
  over_labels r = record {
    monoid = elements_are_labels c r.monoid;
    labels = r.elements;
    predicts = λ X p.
        subst (λ v. IsP code X ↔ (c.portion v ≡ true)) (sym (value_is c X)) (r.predicts X p);
    indistinguishable = λ X Y p q. let s = r.indistinguishable X Y p q in (
      λ a. value_is c X ∙ s.0 a ∙ sym (value_is c Y),
      λ e. s.1 (sym (value_is c X) ∙ e ∙ value_is c Y),
    );
    reached = λ x l. let (X, p, e) = r.reached x l in (X, p, value_is c X ∙ e);
  }

-- With every element the value of some position, and each two elements told apart, positions are
-- alike exactly where their values are equal.
module _
    (heap : ℕ → Type 0) (code : List ℕ) (c : Claim) (m : Monoid c.order c.times)
    (phi_in : GivesElements heap c)
    (predicts : (X : List ℕ) → IsPosition heap X → IsP code X ↔ (c.portion (value c X) ≡ true))
    (reached : (x : ℕ) → x < c.order → (X : List ℕ) × IsPosition heap X × (value c X ≡ x))
    (apart : AllApart c) where
  reduced : (x y : ℕ) → x < c.order → y < c.order
      → ((z : ℕ) → z < c.order → c.portion (c.times x z) ≡ c.portion (c.times y z)) → x ≡ y
  reduced x y p q same =
      neither_smaller x y (λ l. let (z, h, differ) = apart x y l q in differ (same z h))
      (λ l. let (z, h, differ) = apart y x l p in differ (sym (same z h)))

  -- the whole claim, from what a checker tests
  pub represents : Represents heap code c
  represents =
      of_labels heap code c
      (represents_by (λ x. x < c.order) (over_elements c) (elements_are_labels c m) heap phi_in code
      (λ X p. subst (λ v. IsP code X ↔ (c.portion v ≡ true)) (sym (value_is c X)) (predicts X p))
      (λ x l. let (X, p, e) = reached x l in (X, p, value_is c X ∙ e)) reduced)
