-- Words with large exponents. This project's own.
use Rattle.std.specs.Prelude.{ℕ, ◌≤◌, ◌<◌, List, slice_index}
use Rattle.presentations.specs.declared.TheConstants.{LETTERS}
use Rattle.label_players.specs.declared.wide.TheConstants.{LARGEST_EXPONENT}

-- no exponent is larger than 2^96
abbrev pub AreSmall : List ℕ → Type 0
AreSmall w = (i : ℕ) → i < LETTERS → slice_index w i ≤ LARGEST_EXPONENT
