-- The standard invariants of a commutative monoid that is given by a table, and lists of the elements
-- that have a property. Units, idempotents and ideals: Clifford and Preston, The Algebraic Theory of
-- Semigroups, volume I; of misère quotients: Plambeck and Siegel; Siegel, chapter V.
use Rattle.std.specs.Prelude.{◌≡◌, ℕ, ◌<◌, true, List, [], ◌∷◌, ◌++◌}
use Rattle.misere_theory.specs.Certificates.{Certificate, claim_of}
use Rattle.monoid_table.specs.Grids.{Grid, times_in}
use Rattle.certificate.specs.Fields.{grid_of}
use Rattle.descriptions.specs.declared.choosing.Part.{Part}
use Rattle.descriptions.specs.declared.choosing.Part.TheVariants.{Portion, Units, Idempotents, Kernel}

-- a unit: some product of it is the identity
abbrev pub IsUnit : Grid → ℕ → Type 0
IsUnit t x = (y : ℕ) × (y < t.order) × (times_in t x y ≡ 0)

-- x is a product of y
abbrev pub Divides : Grid → ℕ → ℕ → Type 0
Divides t y x = (z : ℕ) × (z < t.order) × (times_in t y z ≡ x)

-- an element of the kernel, the least ideal: it is in the ideal of each element
abbrev pub IsInKernel : Grid → ℕ → Type 0
IsInKernel t x = (y : ℕ) → y < t.order → Divides t y x

-- the element is one of the part that is named
abbrev pub IsOf : Certificate → Part → ℕ → Type 0
IsOf c Portion x = (claim_of c).portion x ≡ true
IsOf c Units x = IsUnit (grid_of c) x
IsOf c Idempotents x = times_in (grid_of c) x x ≡ x
IsOf c Kernel x = IsInKernel (grid_of c) x

-- The second list has those elements of the first that are so, in their order.
pub data AreThose (P : ℕ → Type 0) : List ℕ → List ℕ → Type 0 where
  NoElement : AreThose P [] []
  Taken : {all those : List ℕ} (e : ℕ) → AreThose P all those → P e
      → AreThose P (all ++ e ∷ []) (those ++ e ∷ [])
  LeftOut : {all those : List ℕ} (e : ℕ) → AreThose P all those → (P e → ⊥)
      → AreThose P (all ++ e ∷ []) those
