-- What is said of a text of any kind. This project's own.
use Rattle.std.specs.Prelude.{ℕ, Bool, List}
use Rattle.given_quotients.specs.Given.{Gives, Refuses}
use Rattle.given_quotients.specs.Says.{SaysGiven}
use Rattle.verdict_commands.specs.QuotientLines.{TellsQuotient}

-- the line of the quotient that such bytes give under the limit, or the text of a true no
abbrev pub Verifies : (List ℕ → Type 0) → ℕ → List ℕ → Bool → Type 0
Verifies Are limit text accepted = SaysGiven TellsQuotient (Gives Are limit) (Refuses Are limit) text accepted
