-- Which turns a call takes, and what it comes to.
use Rattle.std.specs.Prelude.{◌≡◌, ◌⊎◌, ℕ, ◌+◌, ◌*◌, ◌<◌, ◌≤◌, Bool, true, false, ◌||◌, nat_lt, List, length, Result, OnOk, OnErr}
use Rattle.monoid_table.specs.Grids.{Grid}
use Rattle.transition_algebra.specs.OverSets.{Pair}
use Rattle.pair_closure.specs.Turns.{State, KeepsNext, has_ended, is_over}
use Rattle.pair_closure.specs.ClosureViews.{ClosureView, begun, steps, stopped}

-- no turn is left
abbrev pub ended : ClosureView → Bool
ended p = has_ended p.state

-- no turn is left, or a member was kept since
abbrev pub ended_or_kept : ClosureView → ClosureView → Bool
ended_or_kept since p =
    has_ended p.state || nat_lt (length since.state.members) (length p.state.members)

-- Turns one after another, each for one unit: the first that comes to such an end is the last, and
-- without one all units are turns.
pub record Takes (ends : ClosureView → Bool) (units : ℕ) (old new : ClosureView) : Type 0 where
  pub turns : ℕ
  pub within : turns ≤ units
  pub reached : new ≡ steps turns old
  pub spent : new.spent ≡ old.spent + turns
  pub going : (n : ℕ) → n < turns → ends (steps n old) ≡ false
  pub last : turns < units → ends new ≡ true

-- The same turns up to one that memory was refused to, which isn't taken and costs nothing. It would
-- have kept a member: no other turn asks for memory.
pub record IsRefused (ends : ClosureView → Bool) (units : ℕ) (old new : ClosureView) : Type 0 where
  pub turns : ℕ
  pub within : turns < units
  pub reached : new ≡ stopped (steps turns old)
  pub spent : new.spent ≡ old.spent + turns
  pub going : (n : ℕ) → n ≤ turns → ends (steps n old) ≡ false
  pub keeps : KeepsNext new.state

-- The turns of a call: all that it takes, or those up to one that memory was refused to.
abbrev pub Goes : (ClosureView → Bool) → ℕ → ClosureView → ClosureView → Type 0
Goes ends units old new = Takes ends units old new ⊎ IsRefused ends units old new

-- What a call of so many units answers and comes to. Where memory had been refused before, nothing
-- changes.
abbrev pub Grows : {X E : Type 0} → (ClosureView → Bool) → ℕ → Result X E → ClosureView → ClosureView
    → Type 0
Grows ends units result old new =
    OnOk result (Takes ends units old new)
    × OnErr result (((old.failed ≡ true) × (new ≡ old)) ⊎ IsRefused ends units old new)

-- Members ever kept: no more than the limit, or exactly one more, where it is over.
pub record IsLimited (s : State) : Type 0 where
  pub within : is_over s ≡ false → length s.members ≤ s.limit
  pub over : is_over s ≡ true → length s.members ≡ s.limit + 1

-- the turns that a closure takes in all
abbrev pub cost : Grid → List Pair → ℕ → ℕ
cost table heaps limit = (steps (limit * length heaps + 2) (begun table heaps limit)).spent
