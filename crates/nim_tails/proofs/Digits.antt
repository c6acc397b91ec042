-- The bits of digits that leave heaps.
use Rattle.std.proofs.Common.{◌≡◌, ◌↔◌, ℕ, zero, suc, ◌≤◌, Bool, false, IsBitSet, IsTrue, sym, ◌∙◌, arith}
use Rattle.std.proofs.lemmas.Bool.{true≢false}

abbrev pub LeavesHeaps : ℕ → Type 0
LeavesHeaps d = (b : ℕ) × (1 ≤ b) × (b ≤ 3) × IsBitSet d b

not_one_or_two : (d b : ℕ) → (IsBitSet d 1 → ⊥) → (IsBitSet d 2 → ⊥) → 1 ≤ b → b ≤ 3
    → IsBitSet d b → IsBitSet d 3
not_one_or_two d zero f g p q s = absurd (omega arith)
not_one_or_two d (suc zero) f g p q s = absurd (f s)
not_one_or_two d (suc (suc zero)) f g p q s = absurd (g s)
not_one_or_two d (suc (suc (suc zero))) f g p q s = s
not_one_or_two d (suc (suc (suc (suc b)))) f g p q s = absurd (omega arith)

pub third : (d : ℕ) (a b r : Bool) → IsTrue a ↔ IsBitSet d 1 → IsTrue b ↔ IsBitSet d 2
    → IsTrue r ↔ IsBitSet d 3 → a ≡ false → b ≡ false → IsTrue r ↔ LeavesHeaps d
third d a b r one two three e f = (
  λ h. (3, omega arith, omega arith, three.0 h),
  λ (i, p, q, s). three.1
      (not_one_or_two d i (λ s. true≢false (sym (one.1 s) ∙ e))
      (λ s. true≢false (sym (two.1 s) ∙ f)) p q s),
)
