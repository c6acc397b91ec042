-- What is asked of a position, where a number tells it. This project's own.
use Rattle.std.specs.Prelude.{ℕ, List}
use Rattle.misere_theory.specs.Certificates.{Certificate}
use Rattle.misere_library.specs.Queries.{TellsOutcome, TellsValue}
use Rattle.misere_library.specs.declared.asking.Question.{Question}
use Rattle.misere_library.specs.declared.asking.Question.TheVariants.{Outcome, Value}

abbrev pub TellsAsked : Question → List ℕ → ℕ → Certificate → Type 0
TellsAsked Outcome = TellsOutcome
TellsAsked Value = TellsValue
