-- A number below n + 1 is below n, or it is n.
use Rattle.std.proofs.Common.{◌≡◌, ℕ, ◌+◌, ◌<◌, ◌⊎◌, arith}

pub last_or_before : (m n : ℕ) → m < n + 1 → (m < n) ⊎ (m ≡ n)
last_or_before m n h = grind arith
