-- What calls on an opened quotient are told, and why they are told nothing. This project's own.
use Rattle.std.specs.Prelude.{◌≡◌, ◌⊎◌, ℕ, List, All, length}
use Rattle.std.specs.declared.option.Option.{Option}
use Rattle.std.specs.declared.option.Option.TheVariants.{None, Some}
use Rattle.positions.specs.Positions.{IsSize}
use Rattle.player.specs.Many.{AreEnds}

-- A quotient is opened, and the rest is true of its certificate.
abbrev pub IsOpened : {C : Type 0} → Option C → (C → Type 0) → Type 0
IsOpened {C} opened says = (c : C) × (opened ≡ Some c) × says c

-- Nothing is opened.
abbrev pub IsUnopened : {C : Type 0} → Option C → ℕ → Type 0
IsUnopened opened status = (status ≡ 17) × (opened ≡ None)

-- The numbers aren't sizes of heaps.
abbrev pub IsNoPosition : List ℕ → ℕ → Type 0
IsNoPosition heaps status = (status ≡ 10) × (All IsSize heaps → ⊥)

-- The ends cut the heaps into as many positions as there is room for.
abbrev pub CutInto : List ℕ → List ℕ → ℕ → Type 0
CutInto heaps ends room = AreEnds (length heaps) ends × (room ≡ length ends)

-- They don't.
abbrev pub AreNoEnds : List ℕ → List ℕ → ℕ → ℕ → Type 0
AreNoEnds heaps ends room status =
    (status ≡ 11) × (AreEnds (length heaps) ends → room ≡ length ends → ⊥)

-- Why there is no second owner: nothing is opened, or memory was refused.
abbrev pub IsUnshared : {C : Type 0} → Option C → ℕ → Type 0
IsUnshared opened status = IsUnopened opened status ⊎ IsOpened opened (λ c. status ≡ 9)
