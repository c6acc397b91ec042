-- What holds of all numbers below n and of n holds of all below n + 1.
use Rattle.std.proofs.Common.{◌≡◌, ℕ, ◌+◌, ◌<◌, ◌≤◌, ◌⊎◌, inl, inr, subst, sym, arith}

pub last_or_before : (m n : ℕ) → m < n + 1 → (m < n) ⊎ (m ≡ n)
last_or_before m n h = grind arith

pub below : (P : ℕ → Type 0) (n : ℕ) → ((m : ℕ) → m < n → P m) → P n → (m : ℕ) → m < n + 1 → P m
below P n f p m h =
    elim (last_or_before m n h) [ inl a ↦ f m a | inr e ↦ subst P (sym e) p ]

-- The same of all numbers from a on.
pub between : (P : ℕ → Type 0) (a n : ℕ) → ((m : ℕ) → a ≤ m → m < n → P m) → P n → (m : ℕ) → a ≤ m
    → m < n + 1 → P m
between P a n f p m l h =
    elim (last_or_before m n h) [ inl b ↦ f m l b | inr e ↦ subst P (sym e) p ]
