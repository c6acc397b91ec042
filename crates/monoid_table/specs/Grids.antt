-- Products written down: the product of x and y stands in row x, at place y; the rows lie one after
-- another.
use Rattle.std.specs.Prelude.{◌≡◌, ℕ, ◌+◌, ◌*◌, ◌<◌, ◌≤◌, List, length, slice_index}
use Rattle.misere_theory.specs.declared.TheConstants.{LARGEST_ORDER}
use Rattle.misere_theory.specs.Quotients.{Monoid}

-- An order, and the rows.
pub record Grid : Type 0 where
  pub order : ℕ
  pub entries : List ℕ

-- entry y of row x
abbrev pub entry : ℕ → List ℕ → ℕ → ℕ → ℕ
entry order rows x y = slice_index rows (x * order + y)

abbrev pub times_in : Grid → ℕ → ℕ → ℕ
times_in g x y = entry g.order g.entries x y

-- as many rows as the order says, each of so many numbers below the order
pub record IsShaped (order : ℕ) (rows : List ℕ) : Type 0 where
  pub positive : 0 < order
  pub small : order ≤ LARGEST_ORDER
  pub length_is : length rows ≡ order * order
  pub below : (i : ℕ) → i < order * order → slice_index rows i < order

-- the rows are those of a commutative monoid with identity 0
pub record IsTable (order : ℕ) (rows : List ℕ) : Type 0 where
  pub shaped : IsShaped order rows
  pub monoid : Monoid order (entry order rows)
