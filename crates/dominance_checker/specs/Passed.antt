-- What is tested of each heap of a claim, and of its numbers.
use Rattle.std.specs.Prelude.{◌≡◌, ◌≢◌, ℕ, ◌+◌, ◌*◌, ◌%◌, ◌<◌, ◌≤◌, ◌⊎◌, true, List, length, Contains, All}
use Rattle.dominance.specs.Triples.{IsElement}
use Rattle.dominance.specs.Tested.{Change, AreApart}
use Rattle.dominance.specs.Finite.{Extent, IsFar}
use Rattle.dominance_checker.specs.declared.numbers.Numbers.{Numbers}
use Rattle.dominance_checker.specs.declared.rank.Rank.{Rank}
use Rattle.dominance_checker.specs.declared.shape.Shape.{Shape}
use Rattle.dominance_checker.specs.declared.side.Side.{Side}
use Rattle.dominance_checker.specs.declared.state.State.{State}
use Rattle.dominance_checker.specs.Ranks.{triple_in, label_by}
use Rattle.dominance_checker.specs.Sides.{sides_by}
use Rattle.dominance_checker.specs.States.{has_change, IsSideState, IsSettledBelow, AreStatesClosed}

-- The option is apart from the heap, differs in parity where it isn't listed, and has a lead of at most this.
pub record IsSideApart (u : Rank) (most : ℕ) (v : Side) : Type 0 where
  pub apart : AreApart (triple_in u) (triple_in v.rank)
  pub parity : (v.listed ≡ true) ⊎ (u.odd ≢ v.rank.odd)
  pub low : v.rank.lead ≤ most

-- Some kind of the list is the state of the heap.
pub record HasKind (u : Rank) (sides : List Side) (kinds : List State) : Type 0 where
  pub kind : State
  pub in_list : Contains kinds kind
  pub state : IsSideState u sides kind

-- All is well with a heap of this rank and these options.
pub record IsPassed (kinds kept : List State) (most : ℕ) (u : Rank) (sides : List Side) : Type 0 where
  pub apart : All (IsSideApart u most) sides
  pub kind : HasKind u sides kinds
  pub low : 2 * u.weight + 7 ≤ most
  pub settled : All (IsSettledBelow u sides (most + 3)) kept

-- All is well with the heap n, and it has an option if it isn't before the last one.
pub record IsHeapPassed (code : List ℕ) (s : Shape) (ranks : List Rank) (kinds kept : List State)
    (e : Numbers) (n : ℕ) : Type 0 where
  pub rank : Rank
  pub is_rank : triple_in rank ≡ label_by s ranks n
  pub passed : IsPassed kinds kept e.most rank (sides_by code s ranks n)
  pub alive : e.last ≤ n → 0 < length (sides_by code s ranks n)

-- The state has no change that loses more than 7.
pub record LosesFew (k : State) : Type 0 where
  pub few : (x : Change) → has_change k x ≡ true → x.1 ≤ 7

-- How far a claim is tested.
abbrev pub extent_in : Shape → Numbers → Extent
extent_in s e =
    record {
      start = s.start;
      period = s.period;
      rise = s.rise;
      large = e.large;
      last = e.last;
      digits = e.digits;
      few = e.few;
      loss = 7;
      tried = λ n. e.most;
    }

-- The heap's triple is an element.
pub record HasElement (s : Shape) (ranks : List Rank) (n : ℕ) : Type 0 where
  pub element : IsElement (label_by s ranks n)

-- The heap weighs at most so much.
pub record HasFew (s : Shape) (ranks : List Rank) (most n : ℕ) : Type 0 where
  pub few : (label_by s ranks n).weight ≤ most

-- The heap's triple is far.
pub record HasFar (s : Shape) (ranks : List Rank) (least n : ℕ) : Type 0 where
  pub far : IsFar least (label_by s ranks n)

-- The numbers are such that the tests are enough.
pub record AreNumbers (s : Shape) (e : Numbers) (length_of_code : ℕ) : Type 0 where
  pub digits : length_of_code ≤ e.digits + 1
  pub from_one : 1 ≤ s.start
  pub some : 1 ≤ s.period
  pub rises : (0 < s.rise) × (s.rise % 2 ≡ 0)
  pub from_start : s.start ≤ e.large
  pub beyond : (e.large + 2 * s.start + e.digits ≤ e.last)
      × (3 * s.start + 3 * s.period + e.digits ≤ e.last)

-- All that is tested of a claim, with lists of kinds and of kept states.
pub record IsClaimTested (code : List ℕ) (s : Shape) (ranks : List Rank) (kinds kept : List State)
    (e : Numbers) : Type 0 where
  pub numbers : AreNumbers s e (length code)
  pub elements : (n : ℕ) → 1 ≤ n → n < s.start + s.period → HasElement s ranks n
  pub few : (n : ℕ) → 1 ≤ n → n < s.start → HasFew s ranks e.few n
  pub far : (n : ℕ) → e.large ≤ n → n < e.large + s.period
      → HasFar s ranks (s.rise + 7 + 2 * e.few + 2) n
  pub losses : All LosesFew kept
  pub closed : AreStatesClosed kinds kept
  pub heaps : (n : ℕ) → 1 ≤ n → n < e.last + s.period → IsHeapPassed code s ranks kinds kept e n

-- The heap has a lead.
pub record HasLead (s : Shape) (ranks : List Rank) (n : ℕ) : Type 0 where
  pub lead : 0 < (label_by s ranks n).lead
