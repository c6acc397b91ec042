-- The rows of a table, as they follow from the first ones and the keys. This project's own.
use Rattle.std.specs.Prelude.{ℕ, ◌+◌, ◌==◌, nat_lt, ◌&&◌, Bool, true, List, [], ◌∷◌, ◌++◌, map, slice_index, slice_index_or}
use Rattle.std.specs.List.{fold, prefix_len}

-- How many elements are first ones: 1, 2, .. up to the last before a key that has another element
-- than 0. In an accepted certificate they are the elements above 0 that heaps have.
abbrev pub firsts_of : List (ℕ × ℕ) → ℕ
firsts_of keys = prefix_len (λ k. k.0 == 0) keys

-- The row of the product of a key: the row of its element, read at each entry of its heap's row.
abbrev pub row_by : (ℕ → ℕ) → List (List ℕ) → ℕ × ℕ → List ℕ
row_by phi rows key =
    map (slice_index (slice_index_or rows key.0 [])) (slice_index_or rows (phi key.1) [])

-- The rows, and behind them one for each of the keys, that of its product.
abbrev pub rows_by : (ℕ → ℕ) → List (ℕ × ℕ) → List (List ℕ) → List (List ℕ)
rows_by phi keys rows = fold (λ made key. made ++ row_by phi made key ∷ []) rows keys

-- Whether each key, from that of the element e on, has a smaller element.
abbrev pub keys_fall : ℕ → List (ℕ × ℕ) → Bool
keys_fall e [] = true
keys_fall e (k ∷ ks) = nat_lt k.0 e && keys_fall (e + 1) ks
