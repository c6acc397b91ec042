-- Pretending functions: an element for each heap size.
-- Plambeck and Siegel, "Misère quotients for impartial games"; the ranges are this project's own.
use Rattle.std.specs.Prelude.{◌≡◌, ℕ, ◌+◌, ◌-◌, ◌%◌, ◌≤◌, nat_lt, if◌then◌else◌, List, ◌∷◌, length, slice_index}
use Rattle.misere_theory.specs.Kinds.{IsHeapIn, kind_by}
use Rattle.misere_theory.specs.declared.TheConstants.{MOST_ENTRIES}

-- the elements of the heaps 1 to start + period - 1, which from start on repeat with the period; with
-- a period of 0 there are no more
pub record Pretending : Type 0 where
  pub start : ℕ
  pub period : ℕ
  pub entries : List ℕ

-- the element of the heap n
abbrev pub phi_at : Pretending → ℕ → ℕ
phi_at f n =
    slice_index (0 ∷ f.entries)
    (if nat_lt n (f.start + f.period) then n else f.start + (n - f.start) % f.period)

-- 0 where all heaps have elements, else the last heap that has one
abbrev pub kind_of : Pretending → ℕ
kind_of f = kind_by f.start f.period

-- the heap n has an element
abbrev pub HasElement : Pretending → ℕ → Type 0
HasElement f = IsHeapIn (kind_of f)

-- start is at least 1, each heap below the sum of start and period has an entry, and there are 1 to
-- `MOST_ENTRIES` of them
pub record IsPretending (f : Pretending) : Type 0 where
  pub from_one : 1 ≤ f.start
  pub some : 2 ≤ f.start + f.period
  pub short : f.start + f.period ≤ MOST_ENTRIES + 1
  pub length_is : length f.entries + 1 ≡ f.start + f.period
