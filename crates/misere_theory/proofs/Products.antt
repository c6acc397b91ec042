-- The pair of a sum is the product of the pairs.
-- A move of a sum is a move of one of the two.
use Rattle.std.proofs.Common.{◌≡◌, ℕ, ◌↔◌, List, ◌++◌, refl, sym, ◌∙◌, ap, inl, inr}
use Rattle.misere_theory.specs.Games.{IsPosition}
use Rattle.misere_theory.specs.Quotients.{Claim, Monoid, GivesElements, value, OptionValue, SumOptionValue}
use Rattle.misere_theory.specs.Parts.{IsPart}
use Rattle.misere_theory.proofs.Sums.{value-append, sum_moves, move_on_left, move_on_right, move_kept}

module _
    (heap : ℕ → Type 0) (code : List ℕ) (kept : IsPart heap code) (c : Claim)
    (m : Monoid c.order c.times)
    (phi_in : GivesElements heap c) where
  pub pair_of_sum : (X Y : List ℕ) → IsPosition heap X → IsPosition heap Y
      → (value c (X ++ Y) ≡ c.times (value c X) (value c Y))
      × ((z : ℕ) → OptionValue code c (X ++ Y) z ↔ SumOptionValue code c X Y z)
  pair_of_sum X Y p q = (
    value-append heap c m phi_in X Y p q,
    λ z. (
      λ o. elim (sum_moves code X Y o.0 o.1) [
        | inl (U, i, e) ↦ inl (
          value c U,
          (U, i, refl),
          sym o.2 ∙ ap (value c) e
              ∙ value-append heap c m phi_in U Y (move_kept heap code kept i p) q,
        )
        | inr (U, i, e) ↦ inr (
          value c U,
          (U, i, refl),
          sym o.2 ∙ ap (value c) e
              ∙ value-append heap c m phi_in X U p (move_kept heap code kept i q),
        )
      ],
      λ s. elim s [
        | inl (x, (U, i, d), e) ↦ (
          U ++ Y,
          move_on_left code X U Y i,
          value-append heap c m phi_in U Y
              (move_kept heap code kept i p) q ∙ ap (λ v. c.times v (value c Y)) d ∙ sym e,
        )
        | inr (y, (U, i, d), e) ↦ (
          X ++ U,
          move_on_right code X Y U i,
          value-append heap c m phi_in X U p
              (move_kept heap code kept i q) ∙ ap (c.times (value c X)) d ∙ sym e,
        )
      ],
    ),
  )
