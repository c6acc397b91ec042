-- Exponents beyond a threshold.
use Rattle.std.proofs.Common.{◌≡◌, ℕ, ◌+◌, ◌-◌, ◌*◌, ◌/◌, ◌%◌, ◌<◌, ◌≤◌, nat_lt, if◌then◌else◌, Bool, true, false, inl, inr, refl, sym, ◌∙◌, ap, arith}
use Rattle.std.proofs.Math.Nat.{mod-eq_of_lt, mod-le, mod-add-div, add-mod_left, add-mul-mod_self_left, mul_assoc}
use Rattle.std.proofs.lemmas.Bool.{ltb-false, le-ltb, cases_lt}
use Rattle.presented_claims.specs.Claims.{cycled_exponent}

pub below : (c : ℕ × ℕ) (e : ℕ) → e < c.0 → cycled_exponent c e ≡ e
below c e lt = by (nat_lt e c.0) refl
  where
    by : (b : Bool) → nat_lt e c.0 ≡ b → (if b then e else c.0 + (e - c.0) % c.1) ≡ e
    by true h = refl
    by false h = let from : c.0 ≤ e = ltb-false e c.0 h in absurd (omega (arith, lt, from))

pub from : (c : ℕ × ℕ) (e : ℕ) → c.0 ≤ e → cycled_exponent c e ≡ c.0 + (e - c.0) % c.1
from c e le = rw (le-ltb e c.0 le) refl

pub most : (c : ℕ × ℕ) (e : ℕ) → cycled_exponent c e ≤ e
most c e = elim (cases_lt e c.0) [
  | inl lt ↦ rw (below c e lt) (omega arith)
  | inr le ↦ rw (from c e le) (let h = mod-le (e - c.0) c.1 in omega (arith, h, le))
]

-- one that is in the first period stays
pub inside : (c : ℕ × ℕ) (e : ℕ) → e < c.0 + c.1 → cycled_exponent c e ≡ e
inside c e lt = elim (cases_lt e c.0) [
  | inl less ↦ below c e less
  | inr le ↦
      let small : e - c.0 < c.1 = omega (arith, lt, le) in
      from c e le ∙ ap (λ x. c.0 + x) (mod-eq_of_lt small) ∙ (omega (arith, le))
]

-- a period more makes no difference
pub again : (c : ℕ × ℕ) (e : ℕ) → c.0 ≤ e → cycled_exponent c (c.1 + e) ≡ cycled_exponent c e
again c e le =
    let later : c.0 ≤ c.1 + e = omega (arith, le) in
    let past : c.1 + e - c.0 ≡ c.1 + (e - c.0) = omega (arith, le) in
    from c (c.1 + e) later ∙ ap (λ x. c.0 + x % c.1) past ∙ ap (λ x. c.0 + x) (add-mod_left c.1 (e - c.0))
    ∙ sym (from c e le)

-- a finer fold first makes no difference
pub finer : (f c : ℕ × ℕ) (k e : ℕ) → c.0 ≤ f.0 → f.1 ≡ c.1 * k
    → cycled_exponent c (cycled_exponent f e) ≡ cycled_exponent c e
finer f c k e le multiple = elim (cases_lt e f.0) [
  | inl less ↦ ap (cycled_exponent c) (below f e less)
  | inr large ↦
      let r : ℕ = e - f.0 in
      let a : ℕ = f.0 - c.0 in
      let small : c.0 ≤ f.0 + r % f.1 = omega (arith, le) in
      let whole : c.0 ≤ e = omega (arith, le, large) in
      let one : f.0 + r % f.1 - c.0 ≡ a + r % f.1 = omega (arith, le) in
      let other : e - c.0 ≡ a + r = omega (arith, le, large) in
      let split : r ≡ r % f.1 + c.1 * (k * (r / f.1)) =
      sym (mod-add-div r f.1) ∙ ap (λ x. r % f.1 + x) (ap (λ x. x * (r / f.1)) multiple ∙ mul_assoc c.1 k (r / f.1)) in
      let sum : a + r ≡ a + r % f.1 + c.1 * (k * (r / f.1)) = omega (arith, split) in
      ap (cycled_exponent c) (from f e large)
      ∙ from c (f.0 + r % f.1) small
      ∙ ap (λ x. c.0 + x % c.1) one
      ∙ ap (λ x. c.0 + x) (sym (add-mul-mod_self_left (a + r % f.1) c.1 (k * (r / f.1))))
      ∙ ap (λ x. c.0 + x % c.1) (sym sum)
      ∙ ap (λ x. c.0 + x % c.1) (sym other)
      ∙ sym (from c e whole)
]
