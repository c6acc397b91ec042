-- The numbers that stand in a row at a set's members.
use Rattle.std.specs.Prelude.{ℕ, ◌<◌, List, slice_index, IsTrue, map, length}
use Rattle.std.specs.Ordering.{nat_cmp}
use Rattle.std.specs.FinSet as set

-- The set of the row's entries at the members of s. This project's own.
abbrev pub translated : set.FinSet nat_cmp → List ℕ → set.FinSet nat_cmp
translated s row = set.from_list (map (λ x. slice_index row x) (set.items s))

-- The row has an entry below this bound at each member.
abbrev pub CanTranslate : ℕ → set.FinSet nat_cmp → List ℕ → Type 0
CanTranslate most s row = (x : ℕ) → IsTrue (set.contains s x)
    → (x < length row) × (slice_index row x < most)
