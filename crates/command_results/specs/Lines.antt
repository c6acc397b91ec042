-- Lines on standard input, and what is said of each. This project's own.
use Rattle.std.specs.Prelude.{◌≡◌, ◌≢◌, ◌<◌, ◌⊎◌, ◌&&◌, ⊤, ℕ, Bool, true, List, [], ◌∷◌, ◌++◌, Option, Some, None, All, codes, length}
use Rattle.command_results.specs.declared.lines.TheConstants.{LARGEST_INPUT}
use Rattle.command_results.specs.declared.stop.Stop.{Stop}
use Rattle.command_results.specs.declared.stop.Stop.TheVariants.{Read, Memory}

-- ---- what is given

-- these are the lines: what is left of standard input, where that is known
abbrev pub AreLinesOf : Option (List ℕ) → List ℕ → Type 0
AreLinesOf None lines = ⊤
AreLinesOf (Some left) lines = left ≡ lines

-- The bytes begin with this line: an LF ends it, and the rest stands behind that; or it is all of
-- them, and no LF stands in them.
abbrev pub IsFirstLine : (bytes line rest : List ℕ) → Type 0
IsFirstLine bytes line rest =
    All (λ b. b ≢ 10) line × ((bytes ≡ line ++ 10 ∷ rest) ⊎ ((bytes ≡ line) × (rest ≡ [])))

-- ---- what is said

-- What is said of each line, one behind the other, and whether each ends well, where it is said what
-- is said of a line, and whether that ends well.
pub data AnswersLines (Answers : List ℕ → List ℕ → Bool → Type 0) : (bytes text : List ℕ) → Bool
    → Type 0 where
  NoLine : AnswersLines Answers [] [] true
  Line : {bytes rest said text : List ℕ} {answered all : Bool} (line : List ℕ) → bytes ≢ []
      → IsFirstLine bytes line rest → Answers line said answered
      → AnswersLines Answers rest text all
      → AnswersLines Answers bytes (said ++ text) (answered && all)

-- ---- why nothing is said

-- there are more bytes than are read of lines
abbrev pub IsTooLong : (List ℕ → Type 0) → Type 0
IsTooLong AreLines = (lines : List ℕ) × AreLines lines × (LARGEST_INPUT < length lines)

-- a read of standard input failed, or there is too much of it; or no read failed and memory was
-- wanting
abbrev pub IsLinesCause : (List ℕ → Type 0) → ℕ → ℕ → Stop → Type 0
IsLinesCause AreLines before after (Read name) =
    (name.now ≡ codes "standard input") × ((before < after) ⊎ IsTooLong AreLines)
IsLinesCause AreLines before after Memory = after ≡ before
IsLinesCause AreLines before after _ = ⊥
