-- The pairs of heaps, as any claim that agrees with a table and a pretending function has them.
use Rattle.std.specs.Prelude.{◌≡◌, ℕ, ◌+◌, ◌-◌, ◌<◌, ◌↔◌, List, length, map, slice_index_or, IsTrue}
use Rattle.std.specs.List.{range_with_len}
use Rattle.std.specs.FinSet as set
use Rattle.misere_theory.specs.Quotients.{Claim, HeapOptionValue}
use Rattle.misere_theory.specs.Kinds.{bound_in}
use Rattle.monoid_table.specs.Grids.{Grid, times_in}
use Rattle.heap_options.specs.Options.{options_of}
use Rattle.heap_options.specs.declared.left.Left.{Left}
use Rattle.heap_options.specs.declared.left.Left.TheVariants.{Nothing, One, Two, Three}
use Rattle.monoid_table.specs.Pretending.{Pretending, phi_at, kind_of}
use Rattle.monoid_table.specs.PretendingTables.{Agrees}
use Rattle.transition_algebra.specs.OverSets.{Pair}

-- the pair has the heap's element and exactly the values of its options
pub record IsHeapPair (code : List ℕ) (c : Claim) (n : ℕ) (p : Pair) : Type 0 where
  pub value_is : p.value ≡ c.phi n
  pub options_are : (x : ℕ) → IsTrue (set.contains p.options x) ↔ HeapOptionValue code c n x

-- the pairs of the heaps 1 to B, in turn
pub record IsHeapPairs (code : List ℕ) (c : Claim) (B : ℕ) (pairs : List Pair) : Type 0 where
  pub length_is : length pairs ≡ B
  pub each : (i : ℕ) (d : Pair) → i < length pairs
      → IsHeapPair code c (i + 1) (slice_index_or pairs i d)

-- Where all heaps have elements, B = 2 start + 2 period + k, for the last digit dk of the code, or 3
-- start + 3 period + k where some digit has bit 8; else it is the last heap that has an element.
abbrev pub bound_of : List ℕ → Pretending → ℕ
bound_of code phi = bound_in (kind_of phi) code (length code - 1) phi.start phi.period

-- the pairs are those of the heaps 1 to B, whatever claim agrees with the table and phi
abbrev pub AreAllHeapPairs : List ℕ → Grid → Pretending → List Pair → Type 0
AreAllHeapPairs code table phi pairs = (c : Claim) → Agrees c table phi
    → IsHeapPairs code c (bound_of code phi) pairs

-- Of what is left only parts up to this one are tried but for the largest: those below start +
-- period.
abbrev pub largest_part : Pretending → ℕ
largest_part phi = phi.start + phi.period - 1

-- the product of the heaps that are left
abbrev pub left_value : Grid → Pretending → Left → ℕ
left_value table phi Nothing = 0
left_value table phi (One a) = phi_at phi a
left_value table phi (Two a b) = times_in table (phi_at phi a) (phi_at phi b)
left_value table phi (Three a b c) =
    times_in table (phi_at phi a) (times_in table (phi_at phi b) (phi_at phi c))

-- the pair of the heap n: its element, and the values of all its options
abbrev pub heap_pair : List ℕ → Grid → Pretending → ℕ → Pair
heap_pair code table phi n =
    record {
      value = phi_at phi n;
      options = set.from_list (map (left_value table phi) (options_of code n));
    }

-- the pairs of the heaps 1 to B
abbrev pub all_heap_pairs : List ℕ → Grid → Pretending → List Pair
all_heap_pairs code table phi =
    map (heap_pair code table phi) (range_with_len 1 (bound_of code phi))
