-- Whether a heap has an option, by the first one that a walk gives.
use Rattle.std.proofs.Common.{◌≡◌, ◌∷◌, ◌↔◌, [], ap, sym, subst, refl, arith, ℕ, List, Option, Some, None, is_some, true, length}
use Rattle.std.specs.List.{Contains}
use Rattle.std.specs.Option.{MatchOption}
use Rattle.misere_theory.specs.Games.{HeapOption}
use Rattle.heap_options.specs.declared.left.Left.{Left}

none : (all : List Left) (left : Left) → Contains all left → all ≡ [] → ⊥
none all left (k, few, is) e = let l : length all ≡ 0 = ap length e in omega (arith, few)

head : (all rest : List Left) (x : Left) → all ≡ x ∷ rest → Contains all x
head all rest x e = subst (λ (l : List Left). Contains l x) (sym e) (0, omega arith, refl)

-- the walk gives one first exactly if there is one
pub first_option : (code : List ℕ) (h : ℕ) (all rest : List Left) (first : Option Left)
    → ((H : List ℕ) × HeapOption code h H → (left : Left) × Contains all left)
    → ((left : Left) → Contains all left → (H : List ℕ) × HeapOption code h H)
    → MatchOption first ((all ≡ []) × (rest ≡ [])) (λ (x : Left). all ≡ x ∷ rest)
    → (is_some first ≡ true) ↔ ((H : List ℕ) × HeapOption code h H)
first_option code h all rest None some is m =
    ((λ t. absurd cc), (λ o. let at = some o in absurd (none all at.0 at.1 m.0)))
first_option code h all rest (Some x) some is m = ((λ t. is x (head all rest x m)), (λ o. refl))
