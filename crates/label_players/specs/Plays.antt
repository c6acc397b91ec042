-- Positions of which a presentation speaks. This project's own.
use Rattle.std.specs.Prelude.{ℕ, List}
use Rattle.misere_theory.specs.Games.{IsPosition}
use Rattle.presented_tables.specs.Tested.{HasWord}
use Rattle.presented_checker.specs.Refused.{Kept}

-- Each heap of the position has a word.
abbrev pub SpeaksOf : Kept → List ℕ → Type 0
SpeaksOf k X = IsPosition (HasWord k.said) X
