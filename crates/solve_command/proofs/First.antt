-- Whether a heap has an option, by the first one that a walk gives; and whether the first heaps have.
use Rattle.std.proofs.Common.{◌≡◌, ◌∷◌, ◌↔◌, ◌+◌, ◌<◌, ◌≤◌, ◌⊎◌, [], ap, sym, subst, refl, arith, inl, inr, ℕ, List, Option, Some, None, is_some, true, length}
use Rattle.std.specs.List.{Contains}
use Rattle.std.specs.Option.{MatchOption}
use Rattle.heap_options.specs.declared.left.Left.{Left}
use Rattle.solve_command.specs.Series.{HasOption}

none : (all : List Left) (left : Left) → Contains all left → all ≡ [] → ⊥
none all left (k, few, is) e = let l : length all ≡ 0 = ap length e in omega (arith, few)

head : (all rest : List Left) (x : Left) → all ≡ x ∷ rest → Contains all x
head all rest x e = subst (λ (l : List Left). Contains l x) (sym e) (0, omega arith, refl)

-- the walk gives one first exactly if there is one
pub first_option : (code : List ℕ) (h : ℕ) (all rest : List Left) (first : Option Left)
    → (HasOption code h → (left : Left) × Contains all left)
    → ((left : Left) → Contains all left → HasOption code h)
    → MatchOption first ((all ≡ []) × (rest ≡ [])) (λ (x : Left). all ≡ x ∷ rest)
    → (is_some first ≡ true) ↔ HasOption code h
first_option code h all rest None some is m =
    ((λ t. absurd cc), (λ o. let at = some o in absurd (none all at.0 at.1 m.0)))
first_option code h all rest (Some x) some is m = ((λ t. is x (head all rest x m)), (λ o. refl))

last_or_before : (m n : ℕ) → m < n + 1 → (m < n) ⊎ (m ≡ n)
last_or_before m n h = grind arith

-- one heap more without an option
pub one_more : (code : List ℕ) (m : ℕ) → ((h : ℕ) → 1 ≤ h → h < m → HasOption code h → ⊥)
    → (HasOption code m → ⊥) → (h : ℕ) → 1 ≤ h → h < m + 1 → HasOption code h → ⊥
one_more code m before this h low below o =
    elim (last_or_before h m below) [
      | inl less ↦ before h low less o
      | inr same ↦ this (subst (HasOption code) same o)
    ]
