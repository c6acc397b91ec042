-- What is said of a text of a whole game, or of a presentation, and of a refusal: the text that is printed. This project's
-- own.
use Rattle.std.specs.Prelude.{◌≡◌, ◌≤◌, ◌++◌, ℕ, Bool, true, false, List, length, codes}
use Rattle.octal_code.specs.Text.{code_text}
use Rattle.certificate_text.specs.declared.TheConstants.{LONGEST_TEXT}
use Rattle.dominance_text.specs.Said.{DominanceSaid}
use Rattle.dominance_text.specs.Spelling.{SpellsDominance}
use Rattle.answers.specs.ByteVerdicts.ByteVerdict.{Outcome as Refuted}
use Rattle.answers.specs.InfiniteAnswers.{Why, Text, Law, Outcome, Limit, Memory, Part, Undecided, Finite}
use Rattle.verdict_texts.specs.Lines.{IsTextOf, no_line}
use Rattle.whole_checker.specs.Solved.{IsSolved, IsRefutedWhole}
use Rattle.presented_checker.specs.Refused.{IsTrueOfBytes}

-- the line of a whole game that is solved
abbrev pub whole_line : List ℕ → List ℕ
whole_line code = codes "infinite " ++ code_text code ++ codes " whole\n"

-- The text of a refusal: one line, with its number and name, and for a position at which the rule fails
-- two more, as for other certificates. Want of memory has none.
abbrev pub IsRefusalText : Why → List ℕ → Type 0
IsRefusalText Text text = text ≡ no_line 1 (codes "Text")
IsRefusalText Law text = text ≡ no_line 2 (codes "Law")
IsRefusalText (Outcome code X) text = IsTextOf (Refuted code X) text
IsRefusalText Limit text = text ≡ no_line 8 (codes "Limit")
IsRefusalText Memory text = ⊥
IsRefusalText (Part n) text = text ≡ no_line 31 (codes "Part")
IsRefusalText Undecided text = text ≡ no_line 33 (codes "Undecided")
IsRefusalText Finite text = text ≡ no_line 34 (codes "Finite")

-- The bytes are no more than a text has, and begin as those of whole games do.
abbrev pub BeginsWhole : List ℕ → Type 0
BeginsWhole bytes =
    (length bytes ≤ LONGEST_TEXT) × ((rest : List ℕ) × (bytes ≡ codes "mqw " ++ rest))

-- The text is that of an answer to a text of a whole game which is true of the bytes, and a yes exactly if
-- the answer is one: it is right, or refused.
pub data TellsWhole (bytes : List ℕ) : List ℕ → Bool → Type 0 where
  Solved : {text : List ℕ} {accepted : Bool} (c : DominanceSaid) → SpellsDominance bytes c
      → IsSolved c → text ≡ whole_line c.code → accepted ≡ true → TellsWhole bytes text accepted
  Refused : {text : List ℕ} {accepted : Bool} (why : Why) → IsRefutedWhole bytes why
      → IsRefusalText why text → accepted ≡ false → TellsWhole bytes text accepted

-- The bytes are no more than a text has, and begin as those of presentations do.
abbrev pub BeginsPresented : List ℕ → Type 0
BeginsPresented bytes =
    (length bytes ≤ LONGEST_TEXT) × ((rest : List ℕ) × (bytes ≡ codes "mqp " ++ rest))

-- The text is that of a refusal that is true of the bytes of a presentation.
pub record TellsRefused (bytes text : List ℕ) : Type 0 where
  pub why : Why
  pub true_of : IsTrueOfBytes bytes why
  pub told : IsRefusalText why text
