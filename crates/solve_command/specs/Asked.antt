-- What is asked of a search for an infinite quotient, and what is said. This project's own.
use Rattle.std.specs.Prelude.{ℕ, Bool, List}
use Rattle.octal_code.specs.Text.{IsCodeText}
use Rattle.solve_command.specs.Found.{FindsAsked}

-- the word is a code's, and this is found of it
abbrev pub IsFound : List ℕ → ℕ → Bool → List ℕ → Bool → Type 0
IsFound word heaps presented text succeeds =
    (code : List ℕ) × IsCodeText word code × FindsAsked code heaps presented text succeeds
