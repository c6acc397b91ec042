-- What a search says, over proposers. This project's own.
use Rattle.std.specs.Prelude.{◌≡◌, ⊤, ℕ, Bool, List, length, Option, Result}
use Rattle.misere_theory.specs.Certificates.{Certificate}
use Rattle.octal_code.specs.Text.{IsCodeText}
use Rattle.command_results.specs.declared.stop.Stop.{Stop}
use Rattle.command_results.specs.declared.stop.Stop.TheVariants.{Memory, NotACode}
use Rattle.quotient_finder.specs.Histories.{Events}
use Rattle.quotient_finder.specs.Rounds.{HasSearched}
use Rattle.quotient_finder.specs.declared.gave_up.GaveUp.{GaveUp}
use Rattle.requests.specs.declared.plans.SolveBounds.{SolveBounds}
use Rattle.solve_command.specs.Searches.{IsSearchedBy, WasGivenUpBy, IsFoundBy, ComesToBy, SolvesBy}

-- the text isn't a code's
abbrev pub IsNoCode : List ℕ → Type 0
IsNoCode text = (digits : List ℕ) → IsCodeText text digits → ⊥

-- the text isn't a code's, or memory was wanting
abbrev pub IsSolveCause : List ℕ → Stop → Type 0
IsSolveCause text Memory = ⊤
IsSolveCause text NotACode = IsNoCode text
IsSolveCause text _ = ⊥

-- What a search for a certificate of the code and kind came to, over so many proposers, in at most so
-- many rounds, with this limit of each check.
pub record HasAsked (code : List ℕ) (kind many limit rounds : ℕ) (came : Result Certificate GaveUp)
    : Type 0 where
  pub olds : List Events
  pub news : List Events
  pub count : length olds ≡ many
  pub searched : HasSearched code kind limit rounds olds news came

-- the same of what is made of such calls
abbrev pub IsSearched : List ℕ → SolveBounds → Result Certificate GaveUp → Type 0
IsSearched code bounds came = IsSearchedBy HasAsked code bounds came

abbrev pub WasGivenUp : List ℕ → SolveBounds → Type 0
WasGivenUp code bounds = WasGivenUpBy HasAsked code bounds

abbrev pub IsFoundWithin : List ℕ → SolveBounds → Certificate → Type 0
IsFoundWithin code bounds c = IsFoundBy HasAsked code bounds c

abbrev pub Solves : List ℕ → SolveBounds → List ℕ → Bool → Type 0
Solves word bounds text found = SolvesBy HasAsked word bounds text found
