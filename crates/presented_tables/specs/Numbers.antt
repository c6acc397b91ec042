-- The heaps that have options, in numbers. This project's own.
use Rattle.std.specs.Prelude.{◌≡◌, ℕ, ◌<◌, ◌≤◌, List, length, slice_index}
use Rattle.kept_positions.specs.Kept.{IsMovable}
use Rattle.presented_text.specs.Said.{PresentedSaid}
use Rattle.presented_tables.specs.Tested.{HasWord}

-- Sizes of heaps, and of each heap the number of its size.
pub record HeapNumbers : Type 0 where
  pub sizes : List ℕ
  pub numbers : List ℕ

-- The heap's number is that of its size.
pub record HasNumber (s : HeapNumbers) (n : ℕ) : Type 0 where
  pub number_in : slice_index s.numbers n < length s.sizes
  pub size : slice_index s.sizes (slice_index s.numbers n) ≡ n

-- Size g is that of a heap with an option, whose number is g.
pub record IsSize (c : PresentedSaid) (s : HeapNumbers) (g : ℕ) : Type 0 where
  pub movable : IsMovable (HasWord c) c.code (slice_index s.sizes g)
  pub number : slice_index s.numbers (slice_index s.sizes g) ≡ g

-- The sizes are those of the heaps of the list that have options.
pub record AreNumbers (c : PresentedSaid) (s : HeapNumbers) : Type 0 where
  pub all : (n : ℕ) → n ≤ c.heaps → IsMovable (HasWord c) c.code n → HasNumber s n
  pub sizes : (g : ℕ) → g < length s.sizes → IsSize c s g
