-- Rows of a table that lie one behind the other. This project's own.
use Rattle.std.specs.Prelude.{ℕ, ◌+◌, ◌*◌, List, map, slice_index, slice_range}

-- Row x, of so many numbers.
abbrev pub row_in : ℕ → List ℕ → ℕ → List ℕ
row_in order rows x = slice_range rows (x * order) (x * order + order)

-- The row of the product of x and y: row x, read at each entry of row y.
abbrev pub product_in : ℕ → List ℕ → ℕ → ℕ → List ℕ
product_in order rows x y = map (slice_index (row_in order rows x)) (row_in order rows y)
