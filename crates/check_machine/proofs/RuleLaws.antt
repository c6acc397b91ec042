-- The rule at a pair, and what it says in the theory's words.
use Rattle.std.proofs.Common.{◌≡◌, ◌⊎◌, ℕ, Bool, true, false, List, refl, sym, ◌∙◌, inl, inr}
use Rattle.std.specs.FinSet as set
use Rattle.std.specs.Ordering.{nat_cmp}
use Rattle.misere_theory.specs.Quotients.{Claim, RuleFails}
use Rattle.misere_theory.specs.Pairs.{IsPairOf}
use Rattle.misere_theory.proofs.Refusals.{fails_outside, fails_inside}
use Rattle.transition_algebra.specs.OverSets.{Pair}
use Rattle.transition_algebra.specs.Pairs.{is_empty}
use Rattle.pair_closure.specs.Positions.{as_pair}
use Rattle.pair_closure.proofs.OptionLaws.{items_have, has_items, some_or_empty}
use Rattle.check_machine.specs.Rules.{Obeys, Breaks}

apart : (b : Bool) → b ≡ true → b ≡ false → ⊥
apart true e f = cc
apart false e f = cc

module _ (inside : set.FinSet nat_cmp) (p : Pair) where
  pub inside_some : set.contains inside p.value ≡ true → is_empty p.options ≡ false → Obeys inside p
  inside_some t f = record {
    some = λ _. elim (some_or_empty p.options) [ inl s ↦ s.1 | inr n ↦ absurd (apart _ n.0 f) ];
    leads = λ g. absurd (apart _ t g);
  }

  pub inside_none : set.contains inside p.value ≡ true → is_empty p.options ≡ true → Breaks inside p
  inside_none t e =
      inl (t, elim (some_or_empty p.options) [ inl s ↦ absurd (apart _ e s.0) | inr n ↦ n.1 ])

  pub outside_none : set.contains inside p.value ≡ false → is_empty p.options ≡ true
      → Obeys inside p
  outside_none f e = record {
    some = λ t. absurd (apart _ t f);
    leads =
        λ _ x h.
        elim (some_or_empty p.options)
        [ inl s ↦ absurd (apart _ e s.0) | inr n ↦ absurd (n.1 x h) ];
  }

  pub outside_leads : set.contains inside p.value ≡ false
      → ((x : ℕ) × (set.contains p.options x ≡ true) × (set.contains inside x ≡ true))
      → Obeys inside p
  outside_leads f m = record {
    some = λ t. absurd (apart _ t f);
    leads = λ _ x h. m;
  }

  either : (b : Bool) → (b ≡ true) ⊎ (b ≡ false)
  either true = inl refl
  either false = inr refl

  pub outside_stays : set.contains inside p.value ≡ false → is_empty p.options ≡ false
      → (((x : ℕ) × (set.contains p.options x ≡ true) × (set.contains inside x ≡ true)) → ⊥)
      → Breaks inside p
  outside_stays f n m =
      inr (
        f,
        elim (some_or_empty p.options) [ inl s ↦ s.1 | inr e ↦ absurd (apart _ e.0 n) ],
        λ y h. elim (either (set.contains inside y)) [ inl t ↦ absurd (m (y, h, t)) | inr g ↦ g ],
      )

  -- a pair of a position that breaks the rule shows that it fails there
  pub breach_fails : (code : List ℕ) (c : Claim) (X : List ℕ)
      → ((x : ℕ) → set.contains inside x ≡ c.portion x) → IsPairOf code c (as_pair p) X
      → Breaks inside p → RuleFails code c X
  breach_fails code c X same is (inl (t, none)) =
      fails_inside code c (as_pair p) X is (sym (same p.value) ∙ t)
      (λ x h. none x (items_have p.options x h))
  breach_fails code c X same is (inr (f, (x, h), all)) =
      fails_outside code c (as_pair p) X is (sym (same p.value) ∙ f) x (has_items p.options x h)
      (λ y k. sym (same y) ∙ all y (items_have p.options y k))
