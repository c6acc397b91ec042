-- What is said of positions by the quotient that a file gives, or why nothing is. This project's own.
use Rattle.std.specs.Prelude.{◌≡◌, ◌⊎◌, ℕ, Bool, true, false, List, Option}
use Rattle.misere_theory.specs.Certificates.{Certificate}
use Rattle.positions.specs.Text.{IsTextOf}
use Rattle.player.specs.Answers.{SpeaksOf}
use Rattle.given_quotients.specs.Checks.{Failed, IsGivenCause}
use Rattle.command_results.specs.declared.stop.Stop.{Stop}
use Rattle.command_results.specs.declared.stop.Stop.TheVariants.{NotAPosition}
use Rattle.position_commands.specs.PlayLines.{beyond_line}
use Rattle.position_commands.specs.Plays.{IsNoPosition, PlaysIn}
use Rattle.position_commands.specs.declared.asking.Question.{Question}
use Rattle.position_commands.specs.declared.asking.Question.TheVariants.{Play, Wins, Value}
use Rattle.given_quotients.specs.Says.{SaysGiven}
use Rattle.given_quotients.specs.Given.{Gives, Refuses}
use Rattle.given_quotients.specs.declared.giving.Quotient.{Quotient}
use Rattle.given_quotients.specs.declared.giving.Quotient.TheVariants.{Finite, Whole, Presented}
use Rattle.position_commands.specs.Apart.{SaysApart, SaysApartOfWhole, SaysApartOfPresented}
use Rattle.position_commands.specs.Values.{TellsValue, TellsWholeValue, TellsForm}
use Rattle.position_commands.specs.Wins.{TellsPresentedWins, TellsWins}

-- `Speaks` says of a certificate that it speaks of the positions that are asked about, and `Answers` that
-- a text answers by it, and whether it ends well.
module _ (Speaks : Certificate → Type 0) (Answers : Certificate → List ℕ → Bool → Type 0) where
  -- the answer if the certificate speaks of the positions; or it is partial and doesn't, and the text
  -- says so
  abbrev pub SaysBy : Certificate → List ℕ → Bool → Type 0
  SaysBy c text succeeds =
      (Speaks c × Answers c text succeeds)
      ⊎ ((c.period ≡ 0) × (Speaks c → ⊥) × (text ≡ beyond_line) × (succeeds ≡ false))

-- the element of a position, by one quotient
abbrev pub SaysValue : List ℕ → Quotient → List ℕ → Bool → Type 0
SaysValue X (Finite c) text succeeds =
    SaysBy (λ d. SpeaksOf d X) (λ d t s. TellsValue d X t × (s ≡ true)) c text succeeds
SaysValue X (Whole c) text succeeds = TellsWholeValue c X text succeeds
SaysValue X (Presented k) text succeeds = TellsForm k X text succeeds

-- all winning moves in it
abbrev pub SaysWins : List ℕ → Quotient → List ℕ → Bool → Type 0
SaysWins X (Finite c) text succeeds =
    SaysBy (λ d. SpeaksOf d X) (λ d. TellsWins (Finite d) X) c text succeeds
SaysWins X (Whole c) text succeeds = TellsWins (Whole c) X text succeeds
SaysWins X (Presented k) text succeeds = TellsPresentedWins k X text succeeds

-- what is said to a question in a position
abbrev pub SaysTo : Question → List ℕ → Quotient → List ℕ → Bool → Type 0
SaysTo Play X q text succeeds = PlaysIn q X text succeeds
SaysTo Wins X q text succeeds = SaysWins X q text succeeds
SaysTo Value X q text succeeds = SaysValue X q text succeeds

-- The same in the position that the word spells, by the quotient that such bytes give under the limit; or they
-- give none, and the text is that of a true no.
abbrev pub Asks : Question → (List ℕ → Type 0) → ℕ → List ℕ → List ℕ → Bool → Type 0
Asks question Are limit position text succeeds =
    (X : List ℕ) × IsTextOf position X
    × SaysGiven (SaysTo question X) (Gives Are limit) (Refuses Are limit) text succeeds

-- what tells two positions apart, by one quotient
abbrev pub SaysOfTwo : List ℕ → List ℕ → Quotient → List ℕ → Bool → Type 0
SaysOfTwo X Y (Finite c) text succeeds =
    SaysBy (λ d. SpeaksOf d X × SpeaksOf d Y) (λ d t s. SaysApart d X Y t × (s ≡ true)) c text succeeds
SaysOfTwo X Y (Whole c) text succeeds = SaysApartOfWhole c X Y text succeeds
SaysOfTwo X Y (Presented k) text succeeds = SaysApartOfPresented k X Y text succeeds

-- the same of the two that the words spell, by the quotient that is given
abbrev pub AsksOfTwo : (List ℕ → Type 0) → ℕ → List ℕ → List ℕ → List ℕ → Bool → Type 0
AsksOfTwo Are limit first second text succeeds =
    (X Y : List ℕ) × IsTextOf first X × IsTextOf second Y
    × SaysGiven (SaysOfTwo X Y) (Gives Are limit) (Refuses Are limit) text succeeds

-- a certificate isn't read, for its own cause, or one of the words is no position
abbrev pub IsApartCause : Option (List ℕ) → List ℕ → List ℕ → Failed → Failed → Stop → Type 0
IsApartCause file first second before after NotAPosition = IsNoPosition first ⊎ IsNoPosition second
IsApartCause file first second before after stop = IsGivenCause file before after stop
