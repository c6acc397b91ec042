-- What is tested of a heap, by the triples of its options, and of lists of states.
use Rattle.std.specs.Prelude.{◌≡◌, ℕ, ◌+◌, ◌-◌, ◌<◌, ◌≤◌, ◌⊎◌, Bool, true, false, if◌then◌else◌, List, length, slice_index_or, Contains, All}
use Rattle.dominance.specs.Triples.{Triple, xor, times, is_p}
use Rattle.dominance.specs.Tested.{Change, size_of, empty_state, together, IsWithin, MayStandBeside}
use Rattle.dominance.specs.Tested.{State as Known}
use Rattle.dominance_checker.specs.declared.rank.Rank.{Rank}
use Rattle.dominance_checker.specs.declared.side.Side.{Side}
use Rattle.dominance_checker.specs.declared.state.State.{State}
use Rattle.dominance_checker.specs.Ranks.{triple_in}

-- Whether the state has the change.
abbrev pub has_change : State → Change → Bool
has_change k x = slice_index_or (if x.0 then k.flips else k.keeps) x.1 false

-- The state that the numbers are.
abbrev pub state_in : State → Known
state_in k = record { odd = k.odd; size = k.size; alive = k.alive; changes = has_change k }

-- Some listed option makes the change, and its lead is at most the heap's weight.
abbrev pub HasSide : Rank → List Side → Change → Type 0
HasSide u sides x =
    (v : Side) × Contains sides v × (v.listed ≡ true) × (v.rank.odd ≡ xor x.0 u.odd)
    × (v.rank.weight + x.1 ≡ u.weight) × (v.rank.lead ≤ u.weight)

-- The state is that of the heap alone.
pub record IsSideState (u : Rank) (sides : List Side) (k : State) : Type 0 where
  pub same_odd : k.odd ≡ u.odd
  pub same_size : k.size ≡ size_of u.weight
  pub moves : k.alive ≡ true → 0 < length sides
  pub ended : k.alive ≡ false → length sides ≡ 0
  pub changes : (x : Change) → has_change k x ≡ true → HasSide u sides x

-- The triple of others with a change.
abbrev pub with_change : Triple → Change → Triple
with_change y x = record { odd = xor x.0 y.odd; weight = y.weight - x.1; lead = 0 }

-- Some change of the others leads into the P-portion.
abbrev pub HasLeadingChange : Rank → State → Triple → Type 0
HasLeadingChange u k y =
    (x : Change) × (has_change k x ≡ true) × (is_p (times (triple_in u) (with_change y x)) ≡ true)

-- Some listed option leads into the P-portion.
abbrev pub HasLeadingSide : List Side → Triple → Type 0
HasLeadingSide sides y =
    (v : Side) × Contains sides v × (v.listed ≡ true)
    × (is_p (times (triple_in v.rank) y) ≡ true)

-- The rule at the heap beside y, in the state k.
pub record IsSideSettled (u : Rank) (sides : List Side) (k : State) (y : Triple) : Type 0 where
  pub inside : is_p (times (triple_in u) y) ≡ true → (k.alive ≡ true) ⊎ (0 < length sides)
  pub outside : is_p (times (triple_in u) y) ≡ false
      → ((k.alive ≡ false) × (length sides ≡ 0))
      ⊎ HasLeadingSide sides y
      ⊎ HasLeadingChange u k y

-- A triple of the state's parity.
abbrev pub standing : State → ℕ → ℕ → Triple
standing k weight lead = record { odd = k.odd; weight = weight; lead = lead }

-- Beside the heap a triple with these numbers is settled, if it may stand there in this state.
pub record IsSettledWith (u : Rank) (sides : List Side) (k : State) (weight lead : ℕ) : Type 0 where
  pub settled : MayStandBeside (triple_in u) (state_in k) (standing k weight lead)
      → IsSideSettled u sides k (standing k weight lead)

-- All is that has this weight.
pub record IsSettledAt (u : Rank) (sides : List Side) (k : State) (weight : ℕ) : Type 0 where
  pub settled : (lead : ℕ) → lead < weight + 1 → IsSettledWith u sides k weight lead

-- And that has a weight below the end.
pub record IsSettledBelow (u : Rank) (sides : List Side) (ends : ℕ) (k : State) : Type 0 where
  pub settled : (weight : ℕ) → weight < ends → IsSettledAt u sides k weight

-- Some state of the list says no more than k and h together.
pub record HasStateWithin (kept : List State) (k h : State) : Type 0 where
  pub state : State
  pub in_list : Contains kept state
  pub within : IsWithin (state_in state) (together (state_in k) (state_in h))

-- One for k and each of the kinds.
pub record HasStatesWithin (kinds kept : List State) (k : State) : Type 0 where
  pub each : All (HasStateWithin kept k) kinds

-- The list has the empty position's state, and with each state one for each kind beside it.
pub record AreStatesClosed (kinds kept : List State) : Type 0 where
  pub start : (k : State) × Contains kept k × IsWithin (state_in k) empty_state
  pub step : All (HasStatesWithin kinds kept) kept
