-- When two quotients are the same up to the numbering of their elements.
use Rattle.std.specs.Prelude.{◌≡◌, ℕ, ◌<◌, List, length, slice_index}
use Rattle.misere_theory.specs.Quotients.{Claim}

-- f sends the elements of c one for one to those of d (g sends them back), the identity to the
-- identity, products to products, and the portion to the portion. Isomorphic bipartite monoids:
-- Plambeck and Siegel.
pub record IsIsomorphism (c d : Claim) (f g : ℕ → ℕ) : Type 0 where
  pub onto : (x : ℕ) → x < c.order → f x < d.order
  pub back : (y : ℕ) → y < d.order → g y < c.order
  pub there_and_back : (x : ℕ) → x < c.order → g (f x) ≡ x
  pub back_and_there : (y : ℕ) → y < d.order → f (g y) ≡ y
  pub identity : f 0 ≡ 0
  pub products : (x y : ℕ) → x < c.order → y < c.order → f (c.times x y) ≡ d.times (f x) (f y)
  pub portion : (x : ℕ) → x < c.order → d.portion (f x) ≡ c.portion x

-- no map is an isomorphism
abbrev pub AreDifferent : Claim → Claim → Type 0
AreDifferent c d = (f g : ℕ → ℕ) → IsIsomorphism c d f g → ⊥

-- the list has the image of each element, and is an isomorphism
pub record IsMap (c d : Claim) (map : List ℕ) : Type 0 where
  pub long : length map ≡ c.order
  pub back : ℕ → ℕ
  pub is : IsIsomorphism c d (slice_index map) back
