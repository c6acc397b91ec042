-- What is said in the positions of many lines, by the quotient that a file gives, and why
-- nothing is. This project's own.
use Rattle.std.specs.Prelude.{◌≡◌, ◌≤◌, ◌⊎◌, ℕ, Bool, false, List, Option, Some, None, length}
use Rattle.positions.specs.Text.{IsTextOf}
use Rattle.given_quotients.specs.Checks.{AreGiven, Failed}
use Rattle.command_results.specs.Lines.{AnswersLines, IsLinesCause}
use Rattle.command_results.specs.Stops.{IsFileCause}
use Rattle.command_results.specs.declared.lines.TheConstants.{LARGEST_INPUT}
use Rattle.command_results.specs.declared.stop.Stop.{Stop}
use Rattle.given_quotients.specs.Given.{Gives, Refuses}
use Rattle.given_quotients.specs.Says.{SaysGiven}
use Rattle.given_quotients.specs.declared.giving.Quotient.{Quotient}
use Rattle.position_commands.specs.PlayLines.{no_position_line}
use Rattle.position_commands.specs.Plays.{IsNoPosition, PlaysIn}

-- ---- what is given

-- these are the bytes of a certificate: what the file of this name holds, where that is known
abbrev pub AreFileOf : Option (List ℕ → Option (List ℕ)) → List ℕ → List ℕ → Type 0
AreFileOf files file = AreGiven None files (Some file)

-- ---- what is said

-- What is said of a line, and whether it has an answer: what is said in its position, or that it is
-- none.
pub data AnswersLine (q : Quotient) (line text : List ℕ) (succeeds : Bool) : Type 0 where
  InPosition : (X : List ℕ) → IsTextOf line X → (IsNoPosition line → ⊥) → PlaysIn q X text succeeds
      → AnswersLine q line text succeeds
  NoPosition : IsNoPosition line → text ≡ no_position_line → succeeds ≡ false
      → AnswersLine q line text succeeds

-- what is said of the lines that are given, one behind the other
abbrev pub AnswersGiven : (List ℕ → Type 0) → Quotient → List ℕ → Bool → Type 0
AnswersGiven AreLines q text succeeds =
    (lines : List ℕ) × AreLines lines × (length lines ≤ LARGEST_INPUT)
    × AnswersLines (AnswersLine q) lines text succeeds

-- The same by the quotient that such bytes give under the limit; or the text of a true no, whatever the lines are.
abbrev pub PlaysLines : (List ℕ → Type 0) → ℕ → (List ℕ → Type 0) → List ℕ → Bool → Type 0
PlaysLines Are limit AreLines text succeeds =
    SaysGiven (AnswersGiven AreLines) (Gives Are limit) (Refuses Are limit) text succeeds

-- ---- why nothing is said

-- the certificate isn't read, for its own cause; or it is, and the lines aren't
abbrev pub IsPlayLinesCause : List ℕ → (List ℕ → Type 0) → Failed → Failed → Stop → Type 0
IsPlayLinesCause file AreLines before after stop =
    (IsFileCause file before.files after.files stop × (after.input ≡ before.input))
    ⊎ (IsLinesCause AreLines before.input after.input stop × (after.files ≡ before.files))
