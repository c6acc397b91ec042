-- Positions that plays reach, the first winning move, and plays that answer by it. This project's
-- own, over the usual words of play.
use Rattle.std.specs.Prelude.{◌≡◌, ℕ, ◌<◌, ◌⊎◌, List, length, slice_index, sum, All, AllPairs, IsPermutation}
use Rattle.std.specs.List.Sorted.{IsNonDecreasing}
use Rattle.misere_theory.specs.Games.{Move, HeapMove, MultisetMove, IsP}

-- Some number of moves, none included, leads from X to Y, whatever the order of their heaps.
pub data Reachable (code : List ℕ) : List ℕ → List ℕ → Type 0 where
  Already : {X Y : List ℕ} → IsPermutation X Y → Reachable code X Y
  After : {X Y Z : List ℕ} → MultisetMove code X Y → Reachable code Y Z → Reachable code X Z

-- More than n positions can be reached from X, X itself counted, and positions that differ by the
-- order of heaps counted once.
abbrev pub MoreReachableThan : List ℕ → List ℕ → ℕ → Type 0
MoreReachableThan code X n =
    (Ys : List (List ℕ)) × (n < length Ys)
    × All (Reachable code X) Ys × AllPairs (λ Y Z. IsPermutation Y Z → ⊥) Ys

-- The first part is smaller; or it is the same, and the second is smaller.
abbrev pub PartsBefore : List ℕ → List ℕ → Type 0
PartsBefore H L =
    (slice_index H 0 < slice_index L 0)
    ⊎ ((slice_index H 0 ≡ slice_index L 0) × (slice_index H 1 < slice_index L 1))

-- Of what two moves leave of a heap, H comes before L: less is taken away; or as much is, and fewer
-- heaps are left; or as much is and as many are, and the first is smaller, or it is the same and the
-- second is smaller.
abbrev pub LeftBefore : List ℕ → List ℕ → Type 0
LeftBefore H L =
    (sum L < sum H)
    ⊎ ((sum H ≡ sum L)
    × ((length H < length L) ⊎ ((length H ≡ length L) × PartsBefore H L)))

-- The move of a heap n to H comes before that of a heap m to L: the smaller heap first, and for one
-- heap what is left.
abbrev pub MoveBefore : ℕ → List ℕ → ℕ → List ℕ → Type 0
MoveBefore n H m L = (n < m) ⊎ ((n ≡ m) × LeftBefore H L)

-- In X some heap n may be moved to H, its parts rising, and a P-position is made.
abbrev pub IsWinningMove : List ℕ → List ℕ → ℕ → List ℕ → Type 0
IsWinningMove code X n H = IsNonDecreasing H × ((Y : List ℕ) × HeapMove code X n H Y × IsP code Y)

-- It is a winning move, and no winning move comes before it.
abbrev pub IsFirstWin : List ℕ → List ℕ → ℕ → List ℕ → Type 0
IsFirstWin code X n H =
    IsWinningMove code X n H × ((m : ℕ) (L : List ℕ) → IsWinningMove code X m L → MoveBefore m L n H
    → ⊥)

-- The first winning move leads from Y to Z.
abbrev pub IsAnswer : List ℕ → List ℕ → List ℕ → Type 0
IsAnswer code Y Z = (n : ℕ) × (H : List ℕ) × IsFirstWin code Y n H × HeapMove code Y n H Z

-- In a play from X in which each move of the opponent is answered by the first winning move, Z is
-- handed to the opponent.
pub data IsHanded (code : List ℕ) : List ℕ → List ℕ → Type 0 where
  AtOnce : {X : List ℕ} → IsHanded code X X
  Later : {X W Y Z : List ℕ} → IsHanded code X W → Move code W Y → IsAnswer code Y Z
      → IsHanded code X Z

-- Whoever hands X to the opponent, and answers each move by the first winning one, wins: each
-- position handed over is a P-position; the opponent can move in it; and each such move is the last
-- of the play, or it has an answer.
pub record Keeps (code : List ℕ) (X : List ℕ) : Type 0 where
  pub handed : (Z : List ℕ) → IsHanded code X Z → IsP code Z
  pub goes_on : (Z : List ℕ) → IsHanded code X Z → (Y : List ℕ) × Move code Z Y
  pub answered : (Z Y : List ℕ) → IsHanded code X Z → Move code Z Y
      → ((W : List ℕ) → Move code Y W → ⊥) ⊎ ((W : List ℕ) × IsAnswer code Y W)
