-- What a closure is: the state that its turns have reached, and how many there were.
use Rattle.std.specs.Prelude.{◌≡◌, ℕ, zero, suc, ◌+◌, ◌^◌, ◌<◌, Bool, true, false, cond, List, length, slice_index_or}
use Rattle.monoid_table.specs.Grids.{Grid}
use Rattle.monoid_table.specs.Tables.{IsTableGrid}
use Rattle.transition_algebra.specs.OverSets.{Pair}
use Rattle.transition_algebra.specs.Pairs.{IsPair, one}
use Rattle.pair_closure.specs.OverSets.{Member}
use Rattle.pair_closure.specs.OverSets.{Held}
use Rattle.pair_closure.specs.OverSets.{Generator}
use Rattle.pair_closure.specs.Turns.{start}
pub use Rattle.pair_closure.specs.Turns.{State, SameData, blank_held, NoneBefore, turn, turns, is_done, is_over, has_ended}

-- The state, the turns that it took, and whether a growth was refused.
pub record ClosureView : Type 0 where
  pub state : State
  pub spent : ℕ
  pub failed : Bool

-- a closure by its fields
abbrev pub closure_view : Grid → List Pair → ℕ → List Member → List Held → List Generator → ℕ → ℕ
    → Bool → ClosureView
closure_view table heaps limit members held generators next spent failed = record {
  state = record {
    table = table;
    heaps = heaps;
    limit = limit;
    members = members;
    held = held;
    generators = generators;
    next = next;
  };
  spent = spent;
  failed = failed;
}

-- nothing kept yet
abbrev pub begun : Grid → List Pair → ℕ → ClosureView
begun table heaps limit = record { state = start table heaps limit; spent = 0; failed = false }

-- one turn later
abbrev pub moved : ClosureView → ClosureView
moved p = record p { state = turn p.state; spent = p.spent + 1 }

-- a turn, where one is left
abbrev pub step : ClosureView → ClosureView
step p = cond (has_ended p.state) p (moved p)

abbrev pub steps : ℕ → ClosureView → ClosureView
steps zero p = p
steps (suc n) p = step (steps n p)

-- a growth was refused, and nothing else changed
abbrev pub stopped : ClosureView → ClosureView
stopped p = record p { failed = true }

-- what so many turns from the beginning reach, and whether memory was refused
abbrev pub retaken : ClosureView → ClosureView
retaken p =
    record (steps p.spent (begun p.state.table p.state.heaps p.state.limit)) { failed = p.failed }

-- It is what its turns from the beginning reach.
pub record IsRun (p : ClosureView) : Type 0 where
  pub lawful : IsTableGrid p.state.table
  pub heaps_in : (k : ℕ) → k < length p.state.heaps
      → IsPair p.state.table.order (slice_index_or p.state.heaps k one)
  pub short : length p.state.heaps < 2 ^ 58
  pub small : p.state.limit < 2 ^ 32
  pub run : p ≡ retaken p
