-- How far a search for an outcome has come. Misère outcomes: Siegel, 'Combinatorial Game Theory',
-- chapter V; the search is this project's own.
use Rattle.std.specs.Prelude.{◌≡◌, ℕ, ◌+◌, ◌<◌, ◌≤◌, List, [], length, All, Contains, None, slice_index_or}
use Rattle.std.specs.List.{AllPairs}
use Rattle.std.specs.List.Sorted.{IsNonDecreasing}
use Rattle.misere_theory.specs.Games.{measure}
use Rattle.misere_theory.specs.Plays.{Reachable}
use Rattle.positions.specs.Outcomes.{HasOutcome}
use Rattle.outcome_search.specs.Known.{known}
use Rattle.positions.specs.declared.outcome.Outcome.{Outcome}
use Rattle.outcome_search.specs.Settled.{Follows}

-- a position on the way: it can be reached, and its heaps rise
pub record IsOnTheWay (code X Y : List ℕ) : Type 0 where
  pub reached : Reachable code X Y
  pub rising : IsNonDecreasing Y

-- Some positions are known, and others wait: each for the outcome of the next.
pub record IsSearch (code X : List ℕ) (budget : ℕ) (memo : List (List ℕ × Outcome))
    (waiting : List (List ℕ)) : Type 0 where
  pub right : All (λ e. HasOutcome code e.0 e.1) memo
  pub memo_reached : All (λ e. IsOnTheWay code X e.0) memo
  pub waiting_reached : All (IsOnTheWay code X) waiting
  pub new : All (λ Y. known memo Y ≡ None) waiting
  pub falls : AllPairs (λ Y Z. measure Z < measure Y) waiting
  pub first : slice_index_or waiting 0 [] ≡ X
  pub some : 1 ≤ length waiting
  pub within : length memo + length waiting ≤ budget
  pub follows : (Y : List ℕ) (p : Outcome) → Contains memo (Y, p) → Follows code memo Y p
