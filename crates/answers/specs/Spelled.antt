-- The positions that keys spell. This project's own.
use Rattle.std.specs.Prelude.{ℕ, ◌-◌, ◌<◌, ◌≤◌, List, length, slice_index_or, IsPermutation}
use Rattle.std.specs.List.Sorted.{IsNonDecreasing}
use Rattle.misere_theory.specs.Certificates.{Certificate, IsSpelled}

-- the sizes, rising, of the position that the keys of an element spell
pub record AreSpelled (c : Certificate) (e : ℕ) (sizes : List ℕ) : Type 0 where
  pub X : List ℕ
  pub spelled : IsSpelled c e X
  pub same : IsPermutation X sizes
  pub rising : IsNonDecreasing sizes

-- the key of the element e > 0, in the list of all keys
abbrev pub key_in : List (ℕ × ℕ) → ℕ → ℕ × ℕ
key_in words e = slice_index_or words (e - 1) (0, 0)

-- each key names a smaller element, and a heap
pub record GoDown (words : List (ℕ × ℕ)) : Type 0 where
  pub parent : (e : ℕ) → 0 < e → e ≤ length words → (key_in words e).0 < e
  pub heap : (e : ℕ) → 0 < e → e ≤ length words → 1 ≤ (key_in words e).1
