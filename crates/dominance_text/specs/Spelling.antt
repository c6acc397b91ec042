-- The one text of each claim on a whole game with a ruling heap, `mqw 1`: these lines in this order, each
-- ended by one LF, with single spaces, nothing before and nothing behind. This project's own.
use Rattle.std.specs.Prelude.{◌≡◌, ℕ, List, [], ◌∷◌, map, codes}
use Rattle.std.specs.Fmt.{decimal}
use Rattle.octal_code.specs.Text.{code_text}
use Rattle.certificate_text.specs.Spelling.{Line, text}
use Rattle.dominance_text.specs.Said.{DominanceSaid, IsInRanges}

abbrev pub dominance_lines : DominanceSaid → List Line
dominance_lines c =
    record { name = codes "mqw"; words = codes "1" ∷ [] }
    ∷ record { name = codes "code"; words = code_text c.code ∷ [] }
    ∷ record { name = codes "start"; words = decimal c.start ∷ [] }
    ∷ record { name = codes "period"; words = decimal c.period ∷ [] }
    ∷ record { name = codes "rise"; words = decimal c.rise ∷ [] }
    ∷ record { name = codes "odd"; words = map decimal c.odd }
    ∷ record { name = codes "weights"; words = map decimal c.weights }
    ∷ record { name = codes "leads"; words = map decimal c.leads }
    ∷ record { name = codes "end"; words = [] }
    ∷ []

-- The bytes are the text of what is said, and its numbers are in their ranges.
pub record SpellsDominance (b : List ℕ) (c : DominanceSaid) : Type 0 where
  pub in_ranges : IsInRanges c
  pub bytes : b ≡ text (dominance_lines c)
