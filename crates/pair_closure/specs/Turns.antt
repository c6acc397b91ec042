-- The minimal cover of all products of some pairs, one product a turn. This project's own.
use Rattle.std.specs.Prelude.{◌≡◌, ℕ, zero, suc, ◌+◌, ◌-◌, ◌<◌, ◌≤◌, Bool, false, cond, not, ◌||◌, nat_lt, List, [], ◌∷◌, ◌++◌, length, slice_index_or, slice_set, filter}
use Rattle.std.specs.List.{list_any, position_or_len}
use Rattle.monoid_table.specs.Grids.{Grid}
use Rattle.transition_algebra.specs.Pairs.{one, times, covers}
use Rattle.pair_closure.specs.Chains.{blank}
pub use Rattle.transition_algebra.specs.OverSets.{Pair}
pub use Rattle.pair_closure.specs.OverSets.{Member}
pub use Rattle.pair_closure.specs.OverSets.{Held}
pub use Rattle.pair_closure.specs.OverSets.{Generator}

-- What doesn't change: the table, the pairs of the heaps and the limit. What does: the members ever
-- kept, those held, the heaps that no member covered, and how many heaps were tried.
pub record State : Type 0 where
  pub table : Grid
  pub heaps : List Pair
  pub limit : ℕ
  pub members : List Member
  pub held : List Held
  pub generators : List Generator
  pub next : ℕ

abbrev pub start : Grid → List Pair → ℕ → State
start table heaps limit =
    record {
      table = table;
      heaps = heaps;
      limit = limit;
      members = [];
      held = [];
      generators = [];
      next = 0;
    }

-- turns change neither the table nor the pairs of the heaps nor the limit
pub record SameData (s t : State) : Type 0 where
  pub table : t.table ≡ s.table
  pub heaps : t.heaps ≡ s.heaps
  pub limit : t.limit ≡ s.limit

abbrev pub blank_held : Held
blank_held = record { pair = one; place = 0; by = 0 }

abbrev pub blank_generator : Generator
blank_generator = record { pair = one; heap = 0 }

-- ---- what covers what

-- whether a member held covers x
abbrev pub covered : List Held → Pair → Bool
covered held x = list_any (λ m. covers m.pair x) held

-- a member ever kept covers x
abbrev pub any_covers : List Member → Pair → Bool
any_covers members x = list_any (λ m. covers m.pair x) members

-- x covers a member ever kept
abbrev pub covers_any : Pair → List Member → Bool
covers_any x members = list_any (λ m. covers x m.pair) members

-- x covers a member that is held
abbrev pub covers_held : Pair → List Held → Bool
covers_held x held = list_any (λ m. covers x m.pair) held

-- What the members ever kept tell of those held: whether one covers x; and where x covers none of
-- them, it covers none that is held.
pub record Tell (members : List Member) (held : List Held) (x : Pair) : Type 0 where
  pub covers : any_covers members x ≡ covered held x
  pub covered : covers_any x members ≡ false → covers_held x held ≡ false

-- ---- what a turn writes

-- x is added to the members
abbrev pub members_with : List Member → Pair → ℕ → ℕ → List Member
members_with members x parent heap =
    members ++ record { pair = x; parent = parent; heap = heap } ∷ []

-- x is held, and what it covers is given up
abbrev pub held_with : List Held → Pair → ℕ → ℕ → List Held
held_with held x place by =
    filter (λ m. not (covers x m.pair)) held ++ record { pair = x; place = place; by = by } ∷ []

abbrev pub generators_with : List Generator → Pair → ℕ → List Generator
generators_with generators x heap = generators ++ record { pair = x; heap = heap } ∷ []

-- x is added to the members where none that is held covers it
abbrev pub members_after : List Member → List Held → Pair → ℕ → ℕ → List Member
members_after members held x parent heap =
    cond (covered held x) members (members_with members x parent heap)

-- x is held where none that was held covers it
abbrev pub held_after : List Held → List Held → Pair → ℕ → List Held
held_after before held x place = cond (covered before x) held (held_with held x place 0)

-- ---- which turn is next

-- the first member held that some of so many generators hasn't multiplied, or how many are held
abbrev pub first_pending : List Held → ℕ → ℕ
first_pending held generators = position_or_len (λ m. nat_lt m.by generators) held

-- before this place each member held was multiplied by all generators
abbrev pub NoneBefore : List Held → ℕ → ℕ → Type 0
NoneBefore held generators from =
    (k : ℕ) → k < from → k < length held → generators ≤ (slice_index_or held k blank_held).by

abbrev pub pending : State → ℕ
pending s = first_pending s.held (length s.generators)

abbrev pub is_over : State → Bool
is_over s = nat_lt s.limit (length s.members)

abbrev pub is_done : State → Bool
is_done s =
    cond (is_over s) false
    (cond (nat_lt 0 (length s.members))
    (cond (nat_lt (pending s) (length s.held)) false (not (nat_lt s.next (length s.heaps))))
    false)

-- no turn is left to take
abbrev pub has_ended : State → Bool
has_ended s = is_over s || is_done s

-- The next turn keeps the pair of the empty position.
pub record KeepsEmpty (s : State) : Type 0 where
  pub room : length s.members ≤ s.limit
  pub none : length s.members ≡ 0

-- The next turn multiplies the member held at this place by its next generator.
pub record Multiplies (s : State) (at : ℕ) : Type 0 where
  pub room : length s.members ≤ s.limit
  pub some : 0 < length s.members
  pub first : at ≡ first_pending s.held (length s.generators)
  pub within : at < length s.held

-- The next turn tries the next heap.
pub record TriesHeap (s : State) : Type 0 where
  pub room : length s.members ≤ s.limit
  pub some : 0 < length s.members
  pub all : length s.held ≤ first_pending s.held (length s.generators)
  pub more : s.next < length s.heaps

-- ---- turns

-- the pair of the empty position is the first member
abbrev pub empty_turn : State → State
empty_turn s =
    record s {
      members = members_with s.members one 0 0;
      held = held_with s.held one 0 (length s.heaps);
    }

abbrev pub multiplied : Held → Held
multiplied m = record { pair = m.pair; place = m.place; by = m.by + 1 }

-- the member held at the place is multiplied by its next generator
abbrev pub product_turn : State → ℕ → State
product_turn s at =
    let m = slice_index_or s.held at blank_held in
    let g = slice_index_or s.generators m.by blank_generator in
    let x = times s.table m.pair g.pair in
    record s {
      members = members_after s.members s.held x m.place g.heap;
      held = held_after s.held (slice_set s.held at (multiplied m)) x (length s.members);
    }

-- the empty member is multiplied by the next heap
abbrev pub heap_turn : State → State
heap_turn s =
    let x = slice_index_or s.heaps s.next one in
    record s {
      members = members_after s.members s.held x 0 (s.next + 1);
      held = held_after s.held s.held x (length s.members);
      generators =
          cond (covered s.held x) s.generators (generators_with s.generators x (s.next + 1));
      next = s.next + 1;
    }

abbrev pub turn : State → State
turn s =
    cond (is_over s) s
    (cond (nat_lt 0 (length s.members))
    (cond (nat_lt (pending s) (length s.held)) (product_turn s (pending s))
    (cond (nat_lt s.next (length s.heaps)) (heap_turn s) s))
    (empty_turn s))

-- the next turn keeps a member
abbrev pub KeepsNext : State → Type 0
KeepsNext s = length s.members < length (turn s).members

abbrev pub turns : ℕ → State → State
turns zero s = s
turns (suc n) s = turn (turns n s)

-- ---- words

-- the product of a word of heaps
abbrev pub product_of_heaps : Grid → List Pair → List ℕ → Pair
product_of_heaps table heaps [] = one
product_of_heaps table heaps (h ∷ w) =
    times table (slice_index_or heaps (h - 1) one) (product_of_heaps table heaps w)

-- the word of the member ever kept at a place, read from its last heap back; the first number
-- bounds its length
abbrev pub word_of : List Member → ℕ → ℕ → List ℕ
word_of members zero i = []
word_of members (suc n) zero = []
word_of members (suc n) (suc i) = let e = slice_index_or members (suc i) blank in
    e.heap ∷ word_of members n e.parent
