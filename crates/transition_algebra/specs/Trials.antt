-- How far the options of the heaps are tried.
use Rattle.std.specs.Prelude.{◌≡◌, true, if◌then◌else◌, ℕ, ◌+◌, ◌-◌, ◌/◌, ◌^◌, ◌<◌, ◌≤◌, ◌⊎◌, List, [], ◌∷◌, ◌++◌, length, min, slice_index_or, All}
use Rattle.std.specs.List.{flat_map, range_with_len}
use Rattle.std.specs.FinSet as set
use Rattle.std.specs.Ordering.{nat_cmp}
use Rattle.monoid_table.specs.Grids.{Grid}
use Rattle.octal_code.specs.Bits.{allows}
use Rattle.octal_code.specs.declared.leaving.Leaving.{Leaving}
use Rattle.octal_code.specs.declared.leaving.Leaving.TheVariants.{TwoHeaps, ThreeHeaps}
use Rattle.heap_options.specs.Options.{splits, row, last_first, last_second, triples_at, triples}
use Rattle.heap_options.specs.Walks as walks
use Rattle.heap_options.specs.Walks.{single_left, last_part, left_at, begun, stages_left}
use Rattle.heap_options.specs.declared.left.Left.{Left}
use Rattle.heap_options.specs.declared.walk.Untried.{Untried}
use Rattle.heap_options.specs.declared.walk.Untried.TheVariants.{Everything, Splits, Triples}
use Rattle.heap_options.specs.declared.walk.Walk.{Walk}
use Rattle.monoid_table.specs.Pretending.{Pretending, HasElement, phi_at}
use Rattle.transition_algebra.specs.Pairs.{one}
use Rattle.transition_algebra.specs.Heaps.{bound_of, largest_part, left_value}
use Rattle.transition_algebra.specs.Work.{Trying, opening, turns, heap_cost}
use Rattle.transition_algebra.specs.OverSets.{Pair, Trial, CutValues}
use Rattle.transition_algebra.specs.declared.scene.Scene.{Scene}
use Rattle.transition_algebra.specs.declared.cut_values.Cut.{Cut}
use Rattle.transition_algebra.specs.declared.cut_values.Cut.TheVariants.{InTwo, InThree}

-- the element of the heap n, by its pair
abbrev pub value_at : List Pair → ℕ → ℕ
value_at pairs n = (slice_index_or pairs (n - 1) one).value

-- each pair has its heap's element
abbrev pub HaveElements : Pretending → List Pair → Type 0
HaveElements phi pairs = (n : ℕ) → 1 ≤ n → n ≤ length pairs → value_at pairs n ≡ phi_at phi n

-- the pairs show the elements of the heaps below n
pub record AreShown (table : Grid) (phi : Pretending) (pairs : List Pair) (n : ℕ) : Type 0 where
  pub elements : HaveElements phi pairs
  pub inside : All (λ p. p.value < table.order) pairs
  pub within : n ≤ length pairs + 1

-- the set, with the values of what is left
unfoldable pub with_left : Grid → Pretending → set.FinSet nat_cmp → List Left → set.FinSet nat_cmp
with_left table phi s [] = s
with_left table phi s (x ∷ xs) = with_left table phi (set.insert s (left_value table phi x)) xs

-- the splits or the triples of the whole heap whose parts but the largest are at most `most`
abbrev pub cuts : Cut → ℕ → ℕ → List Left
cuts InTwo whole most = splits whole 1 (min (whole / 2) most)
cuts InThree whole most = triples whole most 1

-- the values of those that are tried
abbrev pub cut_values : Cut → Grid → Pretending → ℕ → set.FinSet nat_cmp
cut_values cut table phi whole =
    with_left table phi set.empty (cuts cut whole (largest_part phi))

-- set number m has the values of the heap m, cut so
abbrev pub AreCutValues : Cut → Grid → Pretending → List (set.FinSet nat_cmp) → Type 0
AreCutValues cut table phi sets = (m : ℕ) → m < length sets
    → slice_index_or sets m set.empty ≡ cut_values cut table phi m

-- the values that are kept are those of splits and of triples
pub record AreKept {A : Type 0} (table : Grid) (phi : Pretending) (kept : CutValues A) : Type 0 where
  pub splits : AreCutValues InTwo table phi kept.splits.items
  pub triples : AreCutValues InThree table phi kept.triples.items

-- the option that leaves one heap at most was tried
abbrev pub after_single : List ℕ → Grid → Pretending → Trial → Trial
after_single code table phi t =
    record t {
      walk = walks.after_single t.walk;
      seen = with_left table phi t.seen (single_left code t.walk.heap t.walk.away);
      spent = t.spent + length (single_left code t.walk.heap t.walk.away);
    }

-- so many splits were tried, the smaller part from a on
abbrev pub after_splits : Trial → ℕ → ℕ → Trial
after_splits t a count = record t {
  walk = walks.after_splits t.walk a count;
  spent = t.spent + count;
}

-- so many triples were tried, with the first part a, the second from b on
abbrev pub after_triples : Trial → ℕ → ℕ → ℕ → Trial
after_triples t a b count = record t {
  walk = walks.after_triples t.walk a b count;
  spent = t.spent + count;
}

-- the triples with the first part a were tried
abbrev pub after_row : Trial → ℕ → Trial
after_row t a = record t { walk = walks.after_row t.walk a }

-- the bit that allows it
abbrev pub leaving : Cut → Leaving
leaving InTwo = TwoHeaps
leaving InThree = ThreeHeaps

-- behind the splits the triples are untried, or more is taken away where no triple may be left, as it
-- is behind the triples
abbrev pub behind : Cut → List ℕ → Walk → Walk
behind InTwo code w = if allows code w.away ThreeHeaps then walks.at_triples w else walks.after_all w
behind InThree code w = walks.after_all w

-- the values of the splits or of the triples, if there are any, are taken over
abbrev pub after_cut : Cut → List ℕ → Grid → Pretending → Trial → Trial
after_cut cut code table phi t = record t {
  walk = behind cut code t.walk;
  seen =
      if allows code t.walk.away (leaving cut)
      then set.union t.seen (cut_values cut table phi (t.walk.heap - t.walk.away))
      else t.seen;
}

-- the heap's pair is set down
abbrev pub after_heap : Trial → Trial
after_heap t = record t {
  walk = begun (t.walk.heap + 1) t.walk.most;
  seen = set.empty;
  spent = t.spent + 1;
}

-- smaller parts count from 1, and go past the last by one at most
abbrev pub IsUntried : List ℕ → ℕ → ℕ → ℕ → Untried → Type 0
IsUntried code n most j Everything = Unit {0}
IsUntried code n most j (Splits a) =
    (1 ≤ a) × (2 ≤ a → (allows code j TwoHeaps ≡ true) × (a ≤ last_part n most j + 1))
IsUntried code n most j (Triples a b) =
    (allows code j ThreeHeaps ≡ true) × (1 ≤ a) × (a ≤ b)
    × (2 ≤ a → a ≤ last_first (n - j) most)
    × (a < b → b ≤ last_second (n - j) most a + 1)

-- the triples of m before the first part a and the second part b
abbrev pub triples_before : ℕ → ℕ → ℕ → ℕ → List Left
triples_before m most a b =
    flat_map (triples_at m most) (range_with_len 1 (a - 1)) ++ row m a a (b - a)

-- the splits or the triples of m that were tried
abbrev pub tried_before : ℕ → ℕ → Untried → List Left
tried_before m most Everything = []
tried_before m most (Splits a) = splits m 1 (a - 1)
tried_before m most (Triples a b) = triples_before m most a b

-- The values of the options tried: those of splits are taken over once all splits of a whole are
-- tried, and those of triples once all of them are.
abbrev pub seen_at : Grid → Pretending → ℕ → set.FinSet nat_cmp → Untried → set.FinSet nat_cmp
seen_at table phi whole seen untried =
    with_left table phi seen (tried_before whole (largest_part phi) untried)

abbrev pub trying_of : List ℕ → Grid → Pretending → Trial → List Pair → Trying
trying_of code table phi t pairs = record {
  heap = t.walk.heap;
  coming = left_at code t.walk.heap (largest_part phi) t.walk.away t.walk.untried;
  seen = seen_at table phi (t.walk.heap - t.walk.away) t.seen t.walk.untried;
  pairs = pairs;
}

-- the trial and the pairs beside it are what the turns spent make of nothing tried
pub record IsTrial (code : List ℕ) (table : Grid) (phi : Pretending) (t : Trial)
    (pairs : List Pair) : Type 0 where
  pub bound_is : t.bound ≡ bound_of code phi
  pub some : 1 ≤ t.bound
  pub most_is : t.walk.most ≡ largest_part phi
  pub away_in : t.walk.away ≤ length code
  pub untried_in : IsUntried code t.walk.heap (largest_part phi) t.walk.away t.walk.untried
  pub within : t.spent ≤ heap_cost code phi
  pub reached : trying_of code table phi t pairs ≡ turns code table phi t.spent (opening code phi)

-- so are they in the scene, and the values that are kept are its own
pub record GoesOn {L : ℕ} {A : Type 0} (scene : Scene L A) (t : Trial) (pairs : List Pair)
    (values : CutValues A) : Type 0 where
  pub trial : IsTrial scene.code.now scene.table.now scene.phi.now t pairs
  pub kept : AreKept scene.table.now scene.phi.now values

-- What the next turn needs: the heap in hand has an element, and the pairs are those of the smaller
-- heaps.
pub record IsReady (code : List ℕ) (table : Grid) (phi : Pretending) (t : Trial)
    (pairs : List Pair) : Type 0 where
  pub going : t.walk.heap ≤ bound_of code phi
  pub counts : HasElement phi t.walk.heap
  pub small : t.spent + t.walk.heap < 2 ^ 48
  pub shown : AreShown table phi pairs t.walk.heap

-- at most so many turns more, none of which begins a second heap, and where none, a stage less
pub record IsRun (code : List ℕ) (table : Grid) (phi : Pretending) (s t : Trial) (pairs : List Pair)
    (units spent : ℕ) : Type 0 where
  pub at_most : spent ≤ units
  pub trial : IsTrial code table phi t pairs
  pub spent_is : t.spent ≡ s.spent + spent
  pub falls : (1 ≤ spent) ⊎ (stages_left code t.walk < stages_left code s.walk)
  pub heap : t.walk.heap ≤ s.walk.heap + 1
