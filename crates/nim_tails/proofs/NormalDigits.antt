-- A number below a nim sum is one to which one of the two can be lowered.
-- By induction on the binary digits, from the last on.
use Rattle.std.proofs.Common.{◌≡◌, ℕ, zero, suc, ◌+◌, ◌/◌, ◌%◌, ◌<◌, ◌⊎◌, bit_xor, refl, ◌∙◌, ap, ap₂, inl, inr, arith}
use Rattle.std.specs.Int.Bits.{xor_self, xor_zero_l, xor_zero_r, xor_assoc}
use Rattle.std.proofs.lemmas.Nat.{xor_comm, xor_shr, xor_mod}
use native.Mathlib.Decide.{dec_lt}

-- one of two digits is 1
abbrev OneIsOne : ℕ → ℕ → Type 0
OneIsOne x y = ((x ≡ 1) × (y ≡ 0)) ⊎ ((x ≡ 0) × (y ≡ 1))

digits : (x y z : ℕ) → x < 2 → y < 2 → z < bit_xor x y → (z ≡ 0) × OneIsOne x y
digits zero zero z l h k = absurd (let e = xor_zero_l 0 in omega arith)
digits zero (suc zero) z l h k = let e = xor_zero_l 1 in (omega arith, inr (refl, refl))
digits (suc zero) zero z l h k = let e = xor_zero_r 1 in (omega arith, inl (refl, refl))
digits (suc zero) (suc zero) z l h k = absurd (let e = xor_self 1 in omega arith)
digits (suc (suc x)) y z l h k = absurd (omega arith)
digits x (suc (suc y)) z l h k = absurd (omega arith)

-- what is added twice is taken away
pub taken_left : (a b : ℕ) → bit_xor (bit_xor a b) b ≡ a
taken_left a b = xor_assoc a b b ∙ ap (bit_xor a) (xor_self b) ∙ xor_zero_r a

-- c with b added is smaller than a
module _ (a b c : ℕ) where
  half : bit_xor a b / 2 ≡ bit_xor (a / 2) (b / 2)
  half = xor_shr a b 1

  lowered_above : bit_xor (c / 2) (b / 2) < a / 2 → bit_xor c b < a
  lowered_above l = let e : bit_xor c b / 2 ≡ bit_xor (c / 2) (b / 2) = xor_shr c b 1 in omega arith

  lowered_last : c / 2 ≡ bit_xor (a / 2) (b / 2) → c % 2 ≡ 0 → a % 2 ≡ 1 → b % 2 ≡ 0
      → bit_xor c b < a
  lowered_last e z one none =
      let f : bit_xor c b / 2 ≡ bit_xor (c / 2) (b / 2) = xor_shr c b 1 in
      let g : bit_xor (c / 2) (b / 2) ≡ a / 2 =
      ap (λ x. bit_xor x (b / 2)) e ∙ taken_left (a / 2) (b / 2) in
      let h : bit_xor c b % 2 ≡ bit_xor (c % 2) (b % 2) = xor_mod c b 1 in
      let i : bit_xor (c % 2) (b % 2) ≡ 0 = ap₂ bit_xor z none ∙ xor_zero_l 0 in omega arith

lowered_within : (t a b c : ℕ) → a + b < t → c < bit_xor a b
    → (bit_xor c b < a) ⊎ (bit_xor c a < b)
lowered_within zero a b c l h = absurd (omega arith)
lowered_within (suc t) a b c l h = elim (dec_lt (c / 2) (bit_xor (a / 2) (b / 2))) [
  | yes less ↦ elim (dec_lt 0 (a + b)) [
    | no none ↦
        let e : a ≡ 0 = omega arith in
        let f : b ≡ 0 = omega arith in
        let g : bit_xor a b ≡ 0 = ap₂ bit_xor e f ∙ xor_zero_l 0 in absurd (omega arith)
    | yes some ↦ elim (lowered_within t (a / 2) (b / 2) (c / 2) (omega arith) less) [
      | inl i ↦ inl (lowered_above a b c i)
      | inr i ↦ inr (lowered_above b a c i)
    ]
  ]
  | no more ↦
      let e : bit_xor a b / 2 ≡ bit_xor (a / 2) (b / 2) = xor_shr a b 1 in
      let f : bit_xor a b % 2 ≡ bit_xor (a % 2) (b % 2) = xor_mod a b 1 in
      let same : c / 2 ≡ bit_xor (a / 2) (b / 2) = omega arith in
      let last : c % 2 < bit_xor (a % 2) (b % 2) = omega arith in
      let (z, one) = digits (a % 2) (b % 2) (c % 2) (omega arith) (omega arith) last in
      elim one [
        | inl (p, q) ↦ inl (lowered_last a b c same z p q)
        | inr (p, q) ↦ inr (lowered_last b a c (same ∙ xor_comm (a / 2) (b / 2)) z q p)
      ]
]

pub lowered : (a b c : ℕ) → c < bit_xor a b → (bit_xor c b < a) ⊎ (bit_xor c a < b)
lowered a b c h = lowered_within (suc (a + b)) a b c (omega arith) h
