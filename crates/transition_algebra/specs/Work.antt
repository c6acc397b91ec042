-- The pairs of the heaps 1 to B, made a turn at a time. A turn tries one option, or sets down the
-- pair of a heap whose options are tried.
use Rattle.std.specs.Prelude.{◌≡◌, ℕ, zero, suc, ◌+◌, ◌*◌, Bool, nat_lt, min, if◌then◌else◌, List, [], ◌∷◌, ◌++◌, length}
use Rattle.std.specs.List.{sum_by, range_with_len}
use Rattle.std.specs.FinSet as set
use Rattle.std.specs.Ordering.{nat_cmp}
use Rattle.misere_theory.specs.Games.{leaves_three}
use Rattle.monoid_table.specs.Grids.{Grid}
use Rattle.heap_options.specs.Options.{options_up_to}
use Rattle.heap_options.specs.declared.left.Left.{Left}
use Rattle.monoid_table.specs.Pretending.{Pretending, phi_at}
use Rattle.transition_algebra.specs.Heaps.{bound_of, largest_part, left_value}
use Rattle.transition_algebra.specs.OverSets.{Pair}

-- the options of the heap n that are tried
abbrev pub tries : List ℕ → Pretending → ℕ → List Left
tries code phi n = options_up_to code n (largest_part phi)

-- the heap in hand, its options to come, the values of those tried, and the pairs of the smaller
-- heaps
pub record Trying : Type 0 where
  pub heap : ℕ
  pub coming : List Left
  pub seen : set.FinSet nat_cmp
  pub pairs : List Pair

-- nothing tried yet
abbrev pub opening : List ℕ → Pretending → Trying
opening code phi = record { heap = 1; coming = tries code phi 1; seen = set.empty; pairs = [] }

-- an option more, or the pair of the heap n, and the next heap
abbrev pub tried : List ℕ → Grid → Pretending → ℕ → set.FinSet nat_cmp → List Pair → List Left
    → Trying
tried code table phi n seen pairs [] =
    record {
      heap = n + 1;
      coming = tries code phi (n + 1);
      seen = set.empty;
      pairs = pairs
          ++ (record { value = phi_at phi n; options = seen } ∷ []);
    }
tried code table phi n seen pairs (x ∷ xs) =
    record { heap = n; coming = xs; seen = set.insert seen (left_value table phi x); pairs = pairs }

-- a turn; past the bound nothing is left to do
abbrev pub turn : List ℕ → Grid → Pretending → Trying → Trying
turn code table phi s =
    if nat_lt (bound_of code phi) s.heap then s else tried code table phi s.heap s.seen s.pairs
    s.coming

unfoldable pub turns : List ℕ → Grid → Pretending → ℕ → Trying → Trying
turns code table phi zero s = s
turns code table phi (suc n) s = turns code table phi n (turn code table phi s)

-- the turns that all pairs take
unfoldable pub heap_cost : List ℕ → Pretending → ℕ
heap_cost code phi =
    sum_by (λ n. length (tries code phi n) + 1) (range_with_len 1 (bound_of code phi))

-- So many turns they take at most: (k + 1) B², or (k + 1) B³ where some digit has bit 8.
abbrev pub most_turns : List ℕ → Pretending → ℕ
most_turns code phi =
    if leaves_three code
    then length code * (bound_of code phi * (bound_of code phi * bound_of code phi))
    else length code * (bound_of code phi * bound_of code phi)

-- What a job was opened with, the units it has spent, and whether a growth was refused to it.
pub record HeapWork : Type 0 where
  pub code : List ℕ
  pub table : Grid
  pub phi : Pretending
  pub spent : ℕ
  pub refused : Bool

-- all pairs stand
abbrev pub IsDone : HeapWork → Type 0
IsDone job = job.spent ≡ heap_cost job.code job.phi

-- the job after so many units more, which end with its last pair
abbrev pub worked : HeapWork → ℕ → HeapWork
worked job units = record job { spent = min (job.spent + units) (heap_cost job.code job.phi) }
