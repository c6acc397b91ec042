-- What the pairs of a closure say of positions.
use Rattle.std.specs.Prelude.{◌≡◌, ℕ, ◌<◌, true, cond, nat_lt, List, [], ◌∷◌, map, Contains, slice_index_or, length, AllPairs, IsPermutation}
use Rattle.std.specs.FinSet as set
use Rattle.misere_theory.specs.Quotients.{Claim, GivesElements, Monoid, ReachesMoreThan}
use Rattle.misere_theory.specs.Games.{IsHeapUpTo, IsPosition}
use Rattle.misere_theory.specs.Pairs as theory
use Rattle.monoid_table.specs.Grids.{Grid, times_in}
use Rattle.transition_algebra.specs.OverSets.{Pair}
use Rattle.transition_algebra.specs.Heaps.{IsHeapPairs}
use Rattle.pair_closure.specs.OverSets.{Held}
use Rattle.pair_closure.specs.Turns.{State, is_done, is_over, word_of}
use Rattle.pair_closure.specs.Chains.{blank}

-- a pair in the words of the theory
abbrev pub as_pair : Pair → theory.Pair
as_pair p = record { value = p.value; options = set.items p.options }

-- The claim's products are the table's, and the list gives its pairs of the heaps 1 up to the
-- list's length, which have elements.
pub record IsClaimOver (code : List ℕ) (c : Claim) (table : Grid) (heaps : List Pair) : Type 0 where
  pub monoid : Monoid c.order c.times
  pub elements : GivesElements (IsHeapUpTo (length heaps)) c
  pub order_is : c.order ≡ table.order
  pub times_is : (x y : ℕ) → x < table.order → y < table.order → c.times x y ≡ times_in table x y
  pub heaps_are : IsHeapPairs code c (length heaps) heaps

-- the pairs held
abbrev pub kept : State → List theory.Pair
kept s = map (λ m. as_pair m.pair) s.held

-- the heaps whose product is the member ever kept at a place
abbrev pub word : State → ℕ → List ℕ
word s place = word_of s.members place place

-- What a state says of the positions of a code under a claim.
pub record DescribesPositions (code : List ℕ) (c : Claim) (s : State) : Type 0 where
  -- each member ever kept is exactly the pair of its word
  pub words : (i : ℕ) → i < length s.members
      → theory.IsPairOf code c (as_pair (slice_index_or s.members i blank).pair) (word s i)
  -- the words are positions of the heaps given
  pub positions : (i : ℕ) → i < length s.members
      → IsPosition (IsHeapUpTo (length s.heaps)) (word s i)
  -- members held are among those ever kept
  pub held : (m : Held) → Contains s.held m
      → (m.place < length s.members) × ((slice_index_or s.members m.place blank).pair ≡ m.pair)
  -- once it is done, the pairs held are closed under products with the heaps
  pub done : is_done s ≡ true → theory.IsClosed code c (IsHeapUpTo (length s.heaps)) (kept s)
  -- once it is over, there are more different pairs of positions of the heaps given than the limit
  pub over : is_over s ≡ true → ReachesMoreThan (IsHeapUpTo (length s.heaps)) code c s.limit

-- a heap put among rising ones
abbrev pub put : ℕ → List ℕ → List ℕ
put h [] = h ∷ []
put h (x ∷ xs) = cond (nat_lt x h) (x ∷ put h xs) (h ∷ x ∷ xs)

-- the same heaps, rising
abbrev pub rising : List ℕ → List ℕ
rising [] = []
rising (h ∷ heaps) = put h (rising heaps)

-- The heaps are exactly those of the word of a member held, rising, and their position has exactly
-- the member's pair, whatever claim the table and the pairs are those of.
pub record IsWordOf (s : State) (m : Held) (heaps : List ℕ) : Type 0 where
  pub are : heaps ≡ rising (word s m.place)
  pub same : IsPermutation (word s m.place) heaps
  pub within : IsPosition (IsHeapUpTo (length s.heaps)) heaps
  pub exact : (code : List ℕ) (c : Claim) → IsClaimOver code c s.table s.heaps
      → theory.IsPairOf code c (as_pair m.pair) heaps

-- Whatever claim the table and the pairs are those of.
abbrev pub ShowsPairs : State → Type 0
ShowsPairs s = (code : List ℕ) (c : Claim) → IsClaimOver code c s.table s.heaps → DescribesPositions code c s

-- The pairs held are closed under products with the heaps, whatever claim the table and the pairs
-- are those of.
abbrev pub IsClosedOver : State → Type 0
IsClosedOver s =
    (code : List ℕ) (c : Claim) → IsClaimOver code c s.table s.heaps
    → theory.IsClosed code c (IsHeapUpTo (length s.heaps)) (kept s)

-- Positions of the heaps given have more different pairs than the limit, whatever claim the table
-- and the pairs are those of.
abbrev pub IsExceeded : State → Type 0
IsExceeded s =
    (code : List ℕ) (c : Claim) → IsClaimOver code c s.table s.heaps
    → ReachesMoreThan (IsHeapUpTo (length s.heaps)) code c s.limit

-- neither covers the other, in the words of the theory
abbrev pub AreApart : Pair → Pair → Type 0
AreApart a b = (theory.PairCovers (as_pair a) (as_pair b) → ⊥)
    × (theory.PairCovers (as_pair b) (as_pair a) → ⊥)

-- What a state is in itself: the members ever kept all differ, and no member held covers another.
pub record IsMinimal (s : State) : Type 0 where
  pub different : AllPairs (λ a b. a.pair ≡ b.pair → ⊥) s.members
  pub minimal : AllPairs (λ a b. AreApart a.pair b.pair) s.held
