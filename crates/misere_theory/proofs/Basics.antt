-- Small facts that several files use.
use Rattle.std.proofs.Common.{◌≡◌, ℕ, ◌<◌, ◌⊎◌, inl, inr, arith}

pub either_way : {A B : Type 0} → A ⊎ B → B ⊎ A
either_way (inl a) = inr a
either_way (inr b) = inl b

pub both_dec : {A B : Type 0} → Dec A → Dec B → Dec (A × B)
both_dec (yes a) (yes b) = yes (a, b)
both_dec (no f) _ = no (λ p. f p.0)
both_dec (yes a) (no g) = no (λ p. g p.1)

pub decided : {A : Type 0} → Dec A → A ⊎ (A → ⊥)
decided (yes a) = inl a
decided (no f) = inr f

-- what can be tested and does not fail holds
pub never_no : {A : Type 0} → Dec A → ((A → ⊥) → ⊥) → A
never_no (yes a) _ = a
never_no (no f) never = absurd (never f)

-- numbers neither of which is smaller are equal
pub neither_smaller : (m n : ℕ) → (m < n → ⊥) → (n < m → ⊥) → m ≡ n
neither_smaller m n f g = omega arith
