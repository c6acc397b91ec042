-- Lists of positions that moves reach. This project's own.
use Rattle.std.specs.Prelude.{◌≡◌, ℕ, List, [], ◌++◌, All, slice_index_or}
use Rattle.std.specs.List.Sorted.{IsNonDecreasing}
use Rattle.misere_theory.specs.Games.{MultisetMove}

-- a move leads from X to Y, whose heaps rise
pub record IsNext (code X Y : List ℕ) : Type 0 where
  pub move : MultisetMove code X Y
  pub rising : IsNonDecreasing Y

-- behind the old positions stand some to which moves lead from the one with this number
abbrev pub AddsMoves : List ℕ → ℕ → List (List ℕ) → List (List ℕ) → Type 0
AddsMoves code number old new =
    (more : List (List ℕ)) × (new ≡ old ++ more)
    × All (IsNext code (slice_index_or old number [])) more
