-- What a search for a whole game hands out. This project's own.
use Rattle.std.specs.Prelude.{◌≡◌, ℕ, List}
use Rattle.dominance_text.specs.Said.{DominanceSaid}
use Rattle.dominance_text.specs.Spelling.{SpellsDominance}
use Rattle.whole_checker.specs.Solved.{IsSolved}

-- It is the text of a whole game, that of the code, and what it says is right.
abbrev pub IsWholeOf : List ℕ → List ℕ → Type 0
IsWholeOf code text =
    (c : DominanceSaid) × SpellsDominance text c × IsSolved c × (c.code ≡ code)
