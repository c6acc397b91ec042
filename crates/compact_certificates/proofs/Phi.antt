-- Every heap has an element of the pretending function's line, or 0.
use Rattle.std.proofs.Common.{ℕ, zero, suc, ◌+◌, ◌-◌, ◌%◌, ◌≤◌, List, ◌∷◌, arith, length, get_or, nat_lt, if◌then◌else◌, All}
use Rattle.std.proofs.lemmas.List.{get_or_past}
use Rattle.std.proofs.lemmas.List.Elements.{All-get_or}
use native.Mathlib.Decide.{dec_lt}
use Rattle.misere_theory.specs.Certificates.{Certificate, phi_at}

entry_first : (m : ℕ) (xs : List ℕ) → All (λ x. x ≤ m) xs → (i : ℕ) → get_or (0 ∷ xs) i 0 ≤ m
entry_first m xs h zero = omega arith
entry_first m xs h (suc i) = elim (dec_lt i (length xs)) [
  | yes l ↦ All-get_or (λ x. x ≤ m) xs i 0 l h
  | no f ↦ let e = get_or_past xs i 0 (omega arith) in omega arith
]

pub phi_first : {m : ℕ} (c : Certificate) → All (λ x. x ≤ m) c.phi → (n : ℕ) → phi_at c n ≤ m
phi_first {m} c h n =
    entry_first m c.phi h
    (if nat_lt n (c.start + c.period) then n else c.start + (n - c.start) % c.period)
