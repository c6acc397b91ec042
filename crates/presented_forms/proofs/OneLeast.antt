-- The least start and period of what repeats: a period from one start on is one from every start from which something
-- repeats.
use Rattle.std.proofs.Common.{◌≡◌, ℕ, ◌-◌, ◌<◌, ◌≤◌, inl, inr, arith}
use Rattle.std.proofs.lemmas.Bool.{cases_lt}

-- From the start on something repeats after the period; from no earlier one, and after no smaller one.
pub record IsLeast (Repeats : ℕ → ℕ → Type 0) (start period : ℕ) : Type 0 where
  pub some : 0 < period
  pub repeats : Repeats start period
  pub least : (p : ℕ) → 0 < p → p < period → Repeats start p → ⊥
  pub earliest : 0 < start → Repeats (start - 1) period → ⊥

module _
    (Repeats : ℕ → ℕ → Type 0)
    (later : (s t p : ℕ) → s ≤ t → Repeats s p → Repeats t p)
    (sooner : (s t p q : ℕ) → 0 < p → Repeats s p → Repeats t q → Repeats s q) where
  no-smaller : (s p t q : ℕ) → IsLeast Repeats s p → IsLeast Repeats t q → p ≤ q
  no-smaller s p t q one two = elim (cases_lt q p) [
    | inl less ↦ absurd (one.least q two.some less (sooner s t p q one.some one.repeats two.repeats))
    | inr most ↦ most
  ]

  no-earlier : (s p t : ℕ) → IsLeast Repeats s p → IsLeast Repeats t p → s ≤ t
  no-earlier s p t one two = elim (cases_lt t s) [
    | inl less ↦
        absurd (one.earliest (omega (arith, less)) (later t (s - 1) p (omega (arith, less)) two.repeats))
    | inr most ↦ most
  ]

  pub one-least : (s p t q : ℕ) → IsLeast Repeats s p → IsLeast Repeats t q → (s ≡ t) × (p ≡ q)
  one-least s p t q one two =
      let a = no-smaller s p t q one two in
      let b = no-smaller t q s p two one in
      let e : p ≡ q = omega (arith, a, b) in
      let two_ : IsLeast Repeats t p = rw (← e) at two in
      let f = no-earlier s p t one two_ in
      let g = no-earlier t p s two_ one in
      (omega (arith, f, g), e)
