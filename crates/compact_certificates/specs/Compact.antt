-- A compact certificate says its first rows alone and no separators, and all else of its table
-- follows. This project's own.
use Rattle.std.specs.Prelude.{◌≡◌, ℕ, ◌+◌, ◌≤◌, ◌<◌, nat_le, Bool, ◌&&◌, [], ◌∷◌, length, take, drop, All}
use Rattle.std.specs.List.{list_all, range_with_len}
use Rattle.misere_theory.specs.Certificates.{Certificate, phi_at, times_of, claim_of, key_of}
use Rattle.compact_certificates.specs.Separators.{separators_of, with_separators}
use Rattle.compact_certificates.specs.Rows.{firsts_of, rows_by, keys_fall}

-- Each element above 0 has a key, and each element a row with an element for each.
pub record HasTable (c : Certificate) : Type 0 where
  pub words : length c.words + 1 ≡ c.order
  pub rows : (length c.rows ≡ c.order)
      × All (λ row. (length row ≡ c.order) × All (λ x. x < c.order) row) c.rows

-- Each row behind the first ones can be made of rows before it: the heaps have 0 and first elements,
-- and behind these each key has a smaller element.
pub record IsExpandable (c : Certificate) : Type 0 where
  pub heaps : All (λ x. x ≤ firsts_of c.words) c.phi
  pub falls : (e : ℕ) → firsts_of c.words < e → e < c.order → (key_of c e).0 < e

-- What a compact text leaves out follows from what it says: row 0 is that of the identity, each row
-- behind the first ones is that of its key's product, and the separators are the least.
pub record Follows (c : Certificate) : Type 0 where
  pub expandable : IsExpandable c
  pub identity : (y : ℕ) → y < c.order → times_of c 0 y ≡ y
  pub product : (e y : ℕ) → firsts_of c.words < e → e < c.order → y < c.order
      → times_of c e y ≡ times_of c (key_of c e).0 (times_of c (phi_at c (key_of c e).1) y)
  pub apart : c.apart ≡ separators_of (claim_of c)

-- The certificate without what follows: its first rows alone, and no separators.
abbrev pub compacted : Certificate → Certificate
compacted c = record c { rows = take (firsts_of c.words) (drop 1 c.rows); apart = [] }

-- The certificate with what follows from its first rows.
abbrev pub expanded : Certificate → Certificate
expanded c =
    with_separators (record c {
      rows =
          rows_by (phi_at c) (drop (firsts_of c.words) c.words)
          (range_with_len 0 c.order ∷ c.rows);
    })

-- Its rows are those of the first elements, from which all others can be made.
pub record IsCompact (c : Certificate) : Type 0 where
  pub words : length c.words + 1 ≡ c.order
  pub expandable : IsExpandable c
  pub rows : (length c.rows ≡ firsts_of c.words)
      × All (λ row. (length row ≡ c.order) × All (λ x. x < c.order) row) c.rows
  pub apart : c.apart ≡ []

-- Whether they can be made, as a reader tests it.
abbrev pub is_expandable : Certificate → Bool
is_expandable c =
    list_all (λ x. nat_le x (firsts_of c.words)) c.phi
    && keys_fall (firsts_of c.words + 1) (drop (firsts_of c.words) c.words)
