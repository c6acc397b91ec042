-- What is told of an opened quotient. This project's own.
use Rattle.std.specs.Prelude.{◌≡◌, ◌⊎◌, ℕ, ◌≤◌, List}
use Rattle.std.specs.declared.option.Option.{Option}
use Rattle.std.specs.declared.option.Option.TheVariants.{None, Some}
use Rattle.misere_theory.specs.Certificates.{Certificate}
use Rattle.solve_library.specs.Found.{IsTextFor, IsUntoldOf, form_at}
use Rattle.solve_library.specs.declared.causes.Untold.{Untold}
use Rattle.solve_library.specs.declared.causes.Untold.TheVariants.{NotInRange, NotOpen}

-- a quotient is opened, and the text is what is asked for of it
abbrev pub IsOpenedText : Option Certificate → ℕ → ℕ → List ℕ → Type 0
IsOpenedText opened output form text =
    (c : Certificate) × (opened ≡ Some c) × IsTextFor output (form_at form) c text

-- Why no text is told: nothing is opened; or something is, and there is no such form, or its text isn't
-- told.
abbrev pub IsOpenedUntold : Option Certificate → ℕ → ℕ → Untold → Type 0
IsOpenedUntold opened output form untold =
    ((untold ≡ NotOpen) × (opened ≡ None))
    ⊎ ((c : Certificate) × (opened ≡ Some c)
    × (((untold ≡ NotInRange) × (2 ≤ form)) ⊎ IsUntoldOf output (form_at form) c untold))
