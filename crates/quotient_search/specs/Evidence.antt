-- How many heaps show a period. This project's own.
use Rattle.std.specs.Prelude.{ℕ, ◌+◌, ◌-◌, ◌≤◌, List, length}
use Rattle.misere_theory.specs.Pairs.{heap_bound}
use Rattle.quotient_search.specs.Periods.{IsPeriodic}

-- The heaps 1 to B - 1 have elements, where the heaps 1 to B show the pair of every heap of the
-- code's game.
abbrev pub IsShown : List ℕ → List ℕ → ℕ → ℕ → Type 0
IsShown code heaps start period =
    (1 ≤ period) × (heap_bound code (length code - 1) start period ≤ length heaps + 1)

-- The list has the period p from s on, and no sum of a start and a period of it is less.
pub record IsSoonestPeriod (es : List ℕ) (s p : ℕ) : Type 0 where
  pub is : IsPeriodic es s p
  pub soonest : (t q : ℕ) → IsPeriodic es t q → s + p ≤ t + q
