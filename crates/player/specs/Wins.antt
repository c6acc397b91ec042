-- Winning moves among those that are tried. This project's own.
use Rattle.std.specs.Prelude.{ℕ, ◌+◌, ◌<◌, List, ◌++◌, take, drop, slice_index}
use Rattle.misere_theory.specs.Pairs.{IsSmallSplit}
use Rattle.misere_theory.specs.Plays.{IsWinningMove, MoveBefore}

-- a winning move whose parts but the largest are at most so large as is tried of the heap
abbrev pub IsTriedWin : List ℕ → (ℕ → ℕ) → List ℕ → ℕ → List ℕ → Type 0
IsTriedWin code most X n H = IsWinningMove code X n H × IsSmallSplit (most n + 1) H

-- the first of them
abbrev pub IsFirstTried : List ℕ → (ℕ → ℕ) → List ℕ → ℕ → List ℕ → Type 0
IsFirstTried code most X n H =
    IsTriedWin code most X n H
    × ((m : ℕ) (L : List ℕ) → IsTriedWin code most X m L → MoveBefore m L n H → ⊥)

-- none of them moves one of the first n heaps
abbrev pub NoneWinsBelow : List ℕ → (ℕ → ℕ) → List ℕ → ℕ → Type 0
NoneWinsBelow code most X n = (k : ℕ) → k < n → (H : List ℕ)
    → IsTriedWin code most X (slice_index X k) H → ⊥

-- all heaps but those from one place to before another
abbrev pub other_heaps : List ℕ → ℕ → ℕ → List ℕ
other_heaps X from to = take from X ++ drop to X
