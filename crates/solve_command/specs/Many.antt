-- What is said of many codes, one behind the other. This project's own.
use Rattle.std.specs.Prelude.{◌≡◌, ◌≤◌, ◌&&◌, ℕ, Bool, true, false, List, [], ◌∷◌, ◌++◌, codes, length}
use Rattle.command_results.specs.Lines.{AnswersLines}
use Rattle.command_results.specs.declared.lines.TheConstants.{LARGEST_INPUT}
use Rattle.requests.specs.declared.plans.SolveBounds.{SolveBounds}
use Rattle.solve_command.specs.Solved.{IsNoCode, Solves}

-- what is said of a word that has no certificate
abbrev pub named : (word said : List ℕ) → List ℕ
named word said = word ++ codes ": " ++ said

-- What is said of a word of many, and whether a certificate was found: what is said of its code
-- alone, behind the word where that is how the search was given up; or that it is no code.
pub data AnswersCode (bounds : SolveBounds) (word text : List ℕ) (found : Bool) : Type 0 where
  Found : Solves word bounds text true → found ≡ true → AnswersCode bounds word text found
  GaveUp : (said : List ℕ) → Solves word bounds said false → text ≡ named word said
      → found ≡ false → AnswersCode bounds word text found
  NoCode : IsNoCode word → text ≡ named word (codes "not a code\n") → found ≡ false
      → AnswersCode bounds word text found

-- What is said of each word in turn, one behind the other, and whether a certificate of each was
-- found.
pub data AnswersCodes (bounds : SolveBounds) : (words : List (List ℕ)) (text : List ℕ) → Bool
    → Type 0 where
  NoMore : AnswersCodes bounds [] [] true
  Code : {rest : List (List ℕ)} {said text : List ℕ} {found all : Bool} (word : List ℕ)
      → AnswersCode bounds word said found → AnswersCodes bounds rest text all
      → AnswersCodes bounds (word ∷ rest) (said ++ text) (found && all)

-- what is said of the code of each line that is given
abbrev pub SolvesLines : (List ℕ → Type 0) → SolveBounds → List ℕ → Bool → Type 0
SolvesLines AreLines bounds text all =
    (lines : List ℕ) × AreLines lines × (length lines ≤ LARGEST_INPUT)
    × AnswersLines (AnswersCode bounds) lines text all
