-- Marked elements, and what products do with the marks. This project's own.
use Rattle.std.specs.Prelude.{◌≡◌, ℕ, ◌<◌, Bool, true, false, List, length, slice_index, slice_index_or}
use Rattle.monoid_table.specs.Grids.{entry}
use Rattle.own_quotients.specs.Tables.{Own}

-- the products of x with the heaps' elements are marked
abbrev pub AreClosedAt : Own → List Bool → ℕ → Type 0
AreClosedAt o marks x =
    (i : ℕ) → i < length o.heaps
    → slice_index_or marks (entry o.order o.rows x (slice_index o.heaps i)) false ≡ true

-- the identity is marked, and with each marked element its products with the heaps' elements
pub record AreClosed (o : Own) (identity : ℕ) (marks : List Bool) : Type 0 where
  pub begins : slice_index_or marks identity false ≡ true
  pub goes_on : (x : ℕ) → x < o.order → slice_index_or marks x false ≡ true → AreClosedAt o marks x

-- whatever x and y are multiplied by, both products are marked or neither is
abbrev pub HaveSameMarks : Own → List Bool → ℕ → ℕ → Type 0
HaveSameMarks o marks x y =
    (z : ℕ) → z < o.order
    → slice_index_or marks (entry o.order o.rows x z) false
    ≡ slice_index_or marks (entry o.order o.rows y z) false
