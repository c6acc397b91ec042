-- What is known of rows whose first triples were looked at.
use Rattle.std.specs.Prelude.{◌≡◌, ℕ, ◌+◌, ◌-◌, ◌<◌, ◌≤◌, Bool, true, false, List}
use Rattle.misere_theory.specs.Quotients.{Monoid}
use Rattle.monoid_table.specs.Grids.{IsShaped, entry}
use Rattle.monoid_table.specs.Turns.{triples, triple_holds}

pub record HasLookedAt (order : ℕ) (rows : List ℕ) (spent : ℕ) (refused : Bool) : Type 0 where
  pub shaped : IsShaped order rows
  pub within : spent ≤ triples order
  pub passed : (i : ℕ) → i + 1 < spent → triple_holds order rows i ≡ true
  pub last : refused ≡ false → 0 < spent → triple_holds order rows (spent - 1) ≡ true
  pub broken : refused ≡ true → (0 < spent) × (triple_holds order rows (spent - 1) ≡ false)

-- the same, and whether every law was seen to hold before the first triple
pub record IsJob (order : ℕ) (rows : List ℕ) (spent : ℕ) (refused lawful : Bool) : Type 0 where
  pub looked : HasLookedAt order rows spent refused
  pub laws : lawful ≡ true → Monoid order (entry order rows)
