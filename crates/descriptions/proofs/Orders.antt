-- Orders that are two more than a power of two.
use Rattle.std.proofs.Common.{◌≡◌, ◌≢◌, ℕ, suc, ◌+◌, ◌*◌, ◌^◌, ◌<◌, ◌≤◌, sym, ap, ◌∙◌, inl, inr, arith}
use Rattle.std.proofs.lemmas.Bool.{cases_lt}
use Rattle.std.proofs.Math.Nat.{pow-le-pow_right}
use Rattle.misere_theory.specs.declared.TheConstants.{LARGEST_ORDER}

large : (n : ℕ) → 12 ≤ n → 4096 ≤ 2 ^ n
large n le = let two : 0 < 2 = omega arith in pow-le-pow_right {n = 2} two {i = 12} {j = n} le

pub small : (n : ℕ) → n < 12 → 2 ^ n ≤ 2048
small n lt =
    let two : 0 < 2 = omega arith in
    let le : n ≤ 11 = omega (arith, lt) in
    pow-le-pow_right {n = 2} two {i = n} {j = 11} le

-- the next power
pub twice : (n p : ℕ) → p ≡ 2 ^ n → p * 2 ≡ 2 ^ (n + 1)
twice n p is =
    let next : n + 1 ≡ suc n = omega arith in
    let power : 2 ^ suc n ≡ 2 ^ n * 2 = grind arith in
    ap (λ x. x * 2) is ∙ sym power ∙ sym (ap (λ k. 2 ^ k) next)

abbrev pub AreOther : ℕ → ℕ → Type 0
AreOther order n = (k : ℕ) → 2 ≤ k → k < n → order ≢ 2 ^ k + 2

pub all-other : (order n : ℕ) → order ≤ LARGEST_ORDER → 12 ≤ n → AreOther order n
    → (k : ℕ) → 2 ≤ k → order ≢ 2 ^ k + 2
all-other order n most past others k le e = elim (cases_lt k n) [
  | inl low ↦ others k le low e
  | inr high ↦
      let far : 12 ≤ k = omega (arith, high, past) in
      omega (arith, large k far, e, most)
]
