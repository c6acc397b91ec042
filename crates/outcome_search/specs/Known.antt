-- Outcomes that a search has found, and what it sees of a position by them.
use Rattle.std.specs.Prelude.{◌≡◌, ℕ, List, [], ◌++◌, Contains, IsPermutation, Option, None, nat_eq, remove}
use Rattle.std.specs.List.Sorted.{IsNonDecreasing}
use Rattle.std.specs.Cmp.Lexicographic.{pointwise}
use Rattle.std.specs.Map.{lookup}
use Rattle.misere_theory.specs.Games.{Move, MultisetMove}
use Rattle.heap_options.specs.Exact.{heaps_of}
use Rattle.heap_options.specs.declared.left.Left.{Left}
use Rattle.positions.specs.declared.outcome.Outcome.{Outcome}
use Rattle.positions.specs.declared.outcome.Outcome.TheVariants.{P, N}
use Rattle.outcome_search.specs.declared.look.Seen.{Seen}
use Rattle.outcome_search.specs.declared.look.Seen.TheVariants.{Nothing, Loses, Wins, Unknown}
use Rattle.outcome_search.specs.Settled.{Lists}

-- what is known of the position X
abbrev pub known : List (List ℕ × Outcome) → List ℕ → Option Outcome
known memo X = lookup (pointwise nat_eq X) memo

-- a move leads from X to Y, of which nothing is known
pub record IsUnknown (code X : List ℕ) (memo : List (List ℕ × Outcome)) (Y : List ℕ) : Type 0 where
  pub move : MultisetMove code X Y
  pub rising : IsNonDecreasing Y
  pub not_known : known memo Y ≡ None

-- Each of these options of the heap at the place `at` of X is known to be a mistake: the next
-- player then wins.
abbrev pub AreMistakes : List (List ℕ × Outcome) → List ℕ → ℕ → List Left → Type 0
AreMistakes memo X at lefts = (left : Left) → Contains lefts left → (Y : List ℕ)
    → IsPermutation (heaps_of left ++ remove X at) Y → Lists memo Y N

-- what these options of the heap at the place `at` have shown
abbrev pub HasSeen : List ℕ → List ℕ → List (List ℕ × Outcome) → ℕ → List Left → Seen → List ℕ
    → Type 0
HasSeen code X memo at lefts Nothing next = lefts ≡ []
HasSeen code X memo at lefts Loses next = AreMistakes memo X at lefts
    × ((left : Left) × Contains lefts left)
HasSeen code X memo at lefts Wins next = (Y : List ℕ) × Move code X Y × Lists memo Y P
HasSeen code X memo at lefts Unknown next = IsUnknown code X memo next
