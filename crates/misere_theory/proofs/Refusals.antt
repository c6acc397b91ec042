-- Where a test of the checker fails, the rule fails at a position that can be handed out; where the
-- rule holds everywhere, each test passes.
-- A kept pair is exactly that of its word, and so the word is such a position.
use Rattle.std.proofs.Common.{◌≡◌, ℕ, true, false, List, ◌∷◌, ◌++◌, refl, sym, ◌∙◌, ap, inl, inr, Contains}
use Rattle.misere_theory.specs.Games.{IsPosition}
use Rattle.misere_theory.specs.Games.Move.{Here}
use Rattle.misere_theory.specs.Quotients.{Claim, Monoid, GivesElements, value, HeapOptionValue, RuleFails}
use Rattle.misere_theory.specs.Pairs.{Pair, IsPairOf}
use Rattle.misere_theory.specs.Parts.{IsPart}
use Rattle.misere_theory.proofs.Sums.{value-append}

module _ (code : List ℕ) (c : Claim) (p : Pair) (X : List ℕ) (is : IsPairOf code c p X) where
  -- a member outside the portion with options, none of them in it
  pub fails_outside : c.portion p.value ≡ false → (x : ℕ) → Contains p.options x
      → ((y : ℕ) → Contains p.options y → c.portion y ≡ false)
      → RuleFails code c X
  fails_outside f x h all =
      inr (
        ap c.portion (sym is.same_value) ∙ f,
        (x, (is.options x).0 h),
        λ y o.
            all y ((is.options y).1 o),
      )

  -- a member inside the portion without options
  pub fails_inside : c.portion p.value ≡ true → ((x : ℕ) → Contains p.options x → ⊥)
      → RuleFails code c X
  fails_inside t none =
      inl (ap c.portion (sym is.same_value) ∙ t, inl (λ x o. none x ((is.options x).1 o)))

module _
    (heap : ℕ → Type 0) (code : List ℕ) (kept : IsPart heap code) (c : Claim)
    (m : Monoid c.order c.times)
    (phi_in : GivesElements heap c) where
  -- an option of a heap that leads from the portion into it, beside the value of some position
  pub fails_by_element : (n h : ℕ) (Y : List ℕ) → IsPosition heap (n ∷ Y)
      → HeapOptionValue code c n h
      → c.portion (c.times (c.phi n) (value c Y)) ≡ true → c.portion (c.times h (value c Y)) ≡ true
      → RuleFails code c (n ∷ Y)
  fails_by_element n h Y p (H, o, e) t u =
      inl (
        t,
        inr (
          c.times h (value c Y),
          (
            H ++ Y,
            Here o refl,
            value-append heap c m phi_in H Y (kept n H p.0 o) p.1
                ∙ ap (λ v. c.times v (value c Y)) e,
          ),
          u,
        ),
      )
