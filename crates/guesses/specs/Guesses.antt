-- The shape of a guessed quotient. This project's own.
use Rattle.std.specs.Prelude.{◌≡◌, ◌⊎◌, ◌↔◌, ◌*◌, ◌<◌, ◌≤◌, ℕ, List, length, All, Bool, true}
use Rattle.quotient_search.specs.Evidence.{IsShown, IsSoonestPeriod}
use Rattle.quotient_search.specs.Periods.{HasNoPeriod}

-- Products in flat rows of an order, a mark for each element, and the elements of the heaps 1, 2,
-- .., of which there are at most so many.
pub record IsWellFormed (order : ℕ) (products : List ℕ) (in_portion : List Bool) (heaps : List ℕ)
    (most : ℕ) : Type 0 where
  pub positive : 1 ≤ order
  pub square : length products ≡ order * order
  pub products_below : All (λ x. x < order) products
  pub marked : length in_portion ≡ order
  pub few : length heaps ≤ most
  pub heaps_below : All (λ x. x < order) heaps

-- The period, and its start, that the fewest heaps would show, or twice 0 where the elements show
-- none twice.
abbrev pub IsPeriodOrNone : List ℕ → ℕ → ℕ → Type 0
IsPeriodOrNone heaps start period =
    IsSoonestPeriod heaps start period ⊎ (HasNoPeriod heaps × (start ≡ 0) × (period ≡ 0))

-- This period, and whether there are as many heaps as show it, for this code.
pub record IsPeriodGuess (code heaps : List ℕ) (start period : ℕ) (shown : Bool) : Type 0 where
  pub soonest : IsPeriodOrNone heaps start period
  pub as_shown : (shown ≡ true) ↔ IsShown code heaps start period
