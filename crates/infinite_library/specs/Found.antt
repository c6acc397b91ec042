-- What a search for an infinite quotient tells. This project's own.
use Rattle.std.specs.Prelude.{◌≡◌, ◌⊎◌, ℕ, ◌≤◌, Bool, true, false, List}
use Rattle.misere_theory.specs.declared.TheConstants.{LARGEST_PART}
use Rattle.solve_command.specs.Solved.{IsNoCode}
use Rattle.solve_command.specs.Asked.{IsFound}

-- how far the heaps go is in the range that it has on a command line
abbrev pub AreInRange : ℕ → Type 0
AreInRange heaps = (1 ≤ heaps) × (heaps ≤ LARGEST_PART)

-- The heaps are in their range, and the text is what `misere solve CODE --infinite` says by them: if it succeeds, a
-- right text of the whole game, or a right presentation, and else the line that says why there is none.
abbrev pub IsToldOf : List ℕ → ℕ → List ℕ → Bool → Type 0
IsToldOf code heaps text succeeds = AreInRange heaps × IsFound code heaps false text succeeds

-- The same with `--presented`: if it succeeds, a right presentation.
abbrev pub IsPresentedOf : List ℕ → ℕ → List ℕ → Bool → Type 0
IsPresentedOf code heaps text succeeds = AreInRange heaps × IsFound code heaps true text succeeds

-- Why nothing is told: the heaps are out of their range; or they are in it, and the text is no code's; or it is one, and
-- memory was refused.
abbrev pub IsUntold : List ℕ → ℕ → ℕ → Type 0
IsUntold code heaps status =
    ((status ≡ 15) × (AreInRange heaps → ⊥))
    ⊎ (AreInRange heaps × (((status ≡ 12) × IsNoCode code) ⊎ ((status ≡ 9) × (IsNoCode code → ⊥))))
