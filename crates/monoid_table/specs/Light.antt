-- What Light's associativity test looks at. Clifford and Preston, The Algebraic Theory of
-- Semigroups, volume I, section 1.2.
use Rattle.std.specs.Prelude.{◌≡◌, ℕ, ◌<◌, Bool, true, false, List, slice_index_or}
use Rattle.monoid_table.specs.Grids.{entry}

-- products stay below the order
abbrev pub StaysBelow : ℕ → (ℕ → ℕ → ℕ) → Type 0
StaysBelow order times = (x y : ℕ) → x < order → y < order → times x y < order

-- (xy)z is x(yz) for all x and z
abbrev pub AssociatesAt : ℕ → (ℕ → ℕ → ℕ) → ℕ → Type 0
AssociatesAt order times y = (x z : ℕ) → x < order → z < order
    → times (times x y) z ≡ times x (times y z)

-- the element is the product of two smaller ones
pub record IsComposite (times : ℕ → ℕ → ℕ) (y : ℕ) : Type 0 where
  pub left : ℕ
  pub right : ℕ
  pub left_less : left < y
  pub right_less : right < y
  pub is : times left right ≡ y

abbrev pub IsGenerator : (ℕ → ℕ → ℕ) → ℕ → Type 0
IsGenerator times y = IsComposite times y → ⊥

-- 0 is the identity, and the products are commutative
pub record HoldsAtPairs (order : ℕ) (times : ℕ → ℕ → ℕ) : Type 0 where
  pub identity : (x : ℕ) → x < order → times 0 x ≡ x
  pub commutes : (x y : ℕ) → x < order → y < order → times x y ≡ times y x

-- (xy)z is x(yz) for all x and z, and y each generator but 0
abbrev pub GeneratorsAssociate : ℕ → (ℕ → ℕ → ℕ) → Type 0
GeneratorsAssociate order times = (y : ℕ) → 0 < y → y < order → IsGenerator times y
    → AssociatesAt order times y

-- what is marked is composite
abbrev pub AreComposite : ℕ → List ℕ → List Bool → Type 0
AreComposite order rows marks = (k : ℕ) → slice_index_or marks k false ≡ true
    → IsComposite (entry order rows) k
