-- Games of some heaps, and when their misère quotient is infinite. Plambeck and Siegel.
use Rattle.std.specs.Prelude.{ℕ, ◌<◌, ◌⊎◌, List, ◌++◌}
use Rattle.misere_theory.specs.Games.{HeapOption, IsP, IsN, IsPosition}

-- No option of one of these heaps has another heap, so that they make a game.
abbrev pub IsPart : (ℕ → Type 0) → List ℕ → Type 0
IsPart heap code = (n : ℕ) (H : List ℕ) → heap n → HeapOption code n H → IsPosition heap H

-- Beside some position of these heaps one of the two is a P-position, and the other an N-position.
abbrev pub AreToldApart : (ℕ → Type 0) → List ℕ → List ℕ → List ℕ → Type 0
AreToldApart heap code X Y =
    (Z : List ℕ) × IsPosition heap Z
    × ((IsP code (X ++ Z) × IsN code (Y ++ Z)) ⊎ (IsN code (X ++ Z) × IsP code (Y ++ Z)))

-- There are positions, one for each number, that are pairwise told apart: the game of these heaps has
-- an infinite misère quotient.
abbrev pub IsInfinite : (ℕ → Type 0) → List ℕ → Type 0
IsInfinite heap code =
    (X : ℕ → List ℕ) × ((n : ℕ) → IsPosition heap (X n))
    × ((m n : ℕ) → m < n → AreToldApart heap code (X m) (X n))
