-- Labels of positions in any order. This project's own.
use Rattle.std.specs.Prelude.{ℕ, List, IsPermutation}

-- The position has the label in some order of its heaps.
abbrev pub HasLabel : {S : Type 0} {L : Type 0} → (S → List ℕ → L → Type 0) → S → List ℕ → L → Type 0
HasLabel labels s X x = (Y : List ℕ) × IsPermutation X Y × labels s Y x
