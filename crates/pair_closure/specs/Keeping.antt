-- Turns up to one that keeps a member.
use Rattle.std.specs.Prelude.{◌≡◌, ◌⊎◌, ℕ, ◌+◌, ◌-◌, ◌<◌, ◌≤◌, List, length, slice_index_or}
use Rattle.transition_algebra.specs.OverSets.{Pair}
use Rattle.pair_closure.specs.OverSets.{Held}
use Rattle.pair_closure.specs.Turns.{State, blank_held}
use Rattle.pair_closure.specs.ClosureViews.{ClosureView, steps}

-- one of those held has this pair
abbrev pub HasPair : List Held → Pair → Type 0
HasPair held x = (j : ℕ) × (j < length held) × ((slice_index_or held j blank_held).pair ≡ x)

-- From s to t one member was kept at most. If none was, each pair that is held was held before;
-- otherwise that may differ for the pair of the last one held.
pub record KeepsOne (s t : State) : Type 0 where
  pub few : (length s.members ≤ length t.members) × (length t.members ≤ length s.members + 1)
  pub last : length s.members < length t.members → 0 < length t.held
  pub held : (i : ℕ) → i < length t.held
      → HasPair s.held (slice_index_or t.held i blank_held).pair
      ⊎ ((length s.members < length t.members)
      × ((slice_index_or t.held i blank_held).pair
      ≡ (slice_index_or t.held (length t.held - 1) blank_held).pair))

-- So many turns at most, of which none but the last keeps a member.
pub record GrowsToMember (units : ℕ) (old new : ClosureView) : Type 0 where
  pub turns : ℕ
  pub within : turns ≤ units
  pub reached : new ≡ steps turns old
  pub first : (n : ℕ) → n < turns → length (steps n old).state.members ≡ length old.state.members
