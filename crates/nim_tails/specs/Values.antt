-- What is known while nim values are made, and when there are none. This project's own.
use Rattle.std.specs.Prelude.{◌≡◌, ℕ, ◌≤◌, ◌↔◌, Bool, true, false, List, length, slice_index_or}
use Rattle.nim_tails.specs.Normal.{IsNimOption, AreNimValues}
use Rattle.nim_tails.specs.declared.TheConstants.{NIM_BOUND}
use Rattle.nim_tails.specs.declared.values_fault.NimFault.{NimFault}
use Rattle.nim_tails.specs.declared.values_fault.NimFault.TheVariants.{Large, Memory}

-- Marks of numbers below the bound: those that are the nim sum of an option of the heap n, which are
-- all below it, have one.
abbrev pub AreMarked : List ℕ → (ℕ → ℕ) → ℕ → List Bool → Type 0
AreMarked code G n marks =
    (length marks ≡ NIM_BOUND)
    × ((k : ℕ) → (slice_index_or marks k false ≡ true) ↔ IsNimOption code G n k)

-- Large: in the nim sequence of the code the heap, one of those to `most`, has a value that isn't
-- below the bound.
abbrev pub IsNimFault : List ℕ → ℕ → NimFault → Type 0
IsNimFault code most (Large n) =
    (1 ≤ n) × (n ≤ most) × ((G : ℕ → ℕ) → AreNimValues 0 code G → NIM_BOUND ≤ G n)
IsNimFault code most Memory = Unit {0}
