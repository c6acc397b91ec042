-- What is said in a position, by the quotient that a file gives, and why nothing is. This project's
-- own.
use Rattle.std.specs.Prelude.{◌≡◌, ◌-◌, ◌⊎◌, ⊤, ℕ, Bool, true, false, List, Option}
use Rattle.misere_theory.specs.Certificates.{Certificate}
use Rattle.positions.specs.declared.position.TheConstants.{MOST_SIZES, LARGEST_HEAP}
use Rattle.positions.specs.Text.{IsNoPositionText, IsTextOf, HasTooMany, HasTooLarge}
use Rattle.player.specs.Answers.{IsRightAnswer, IsTriedAnswer, SpeaksOf}
use Rattle.player.specs.declared.answering.Answer.{Answer}
use Rattle.given_quotients.specs.Checks.{Failed, IsGivenCause}
use Rattle.dominance_text.specs.Said.{DominanceSaid}
use Rattle.presented_checker.specs.Refused.{Kept}
use Rattle.label_players.specs.Plays.{SpeaksOf as HasWordsOf}
use Rattle.given_quotients.specs.declared.giving.Quotient.{Quotient}
use Rattle.given_quotients.specs.declared.giving.Quotient.TheVariants.{Finite, Whole, Presented}
use Rattle.command_results.specs.declared.stop.Stop.{Stop}
use Rattle.command_results.specs.declared.stop.Stop.TheVariants.{Memory, NotAPosition}
use Rattle.position_commands.specs.PlayLines.{answer_line, beyond_line}

-- the line of the right answer in the position, in the game of the quotient
abbrev pub AnswersIn : Certificate → List ℕ → List ℕ → Type 0
AnswersIn c X text = (answer : Answer) × IsRightAnswer c.code X answer × (text ≡ answer_line answer)

-- The certificate is partial, and some heap of the position is one of which it doesn't speak; the
-- text says so.
abbrev pub IsBeyond : Certificate → List ℕ → List ℕ → Type 0
IsBeyond c X text = (c.period ≡ 0) × (SpeaksOf c X → ⊥) × (text ≡ beyond_line)

-- the answer where the certificate speaks of the position, and else that it doesn't
abbrev pub PlaysFinite : Certificate → List ℕ → List ℕ → Bool → Type 0
PlaysFinite c X text true = SpeaksOf c X × AnswersIn c X text
PlaysFinite c X text false = IsBeyond c X text

-- The line of the answer in the position of the whole game: a move is the first that wins of those that
-- leave at most one heap from start on.
abbrev pub AnswersWhole : DominanceSaid → List ℕ → List ℕ → Type 0
AnswersWhole c X text =
    (answer : Answer) × IsTriedAnswer c.code (λ _. c.start - 1) X answer × (text ≡ answer_line answer)

-- The line of the answer in the position by a presentation: a move is the first that wins of those whose parts but the
-- largest are heaps of the list.
abbrev pub AnswersPresented : Kept → List ℕ → List ℕ → Type 0
AnswersPresented k X text =
    (answer : Answer) × IsTriedAnswer k.said.code (λ _. k.said.heaps) X answer × (text ≡ answer_line answer)

-- the answer where the presentation speaks of the position, and else that it doesn't
abbrev pub PlaysPresented : Kept → List ℕ → List ℕ → Bool → Type 0
PlaysPresented k X text true = HasWordsOf k X × AnswersPresented k X text
PlaysPresented k X text false = (HasWordsOf k X → ⊥) × (text ≡ beyond_line)

-- what is said in the position by the quotient; a whole game speaks of each
abbrev pub PlaysIn : Quotient → List ℕ → List ℕ → Bool → Type 0
PlaysIn (Finite c) X text succeeds = PlaysFinite c X text succeeds
PlaysIn (Whole c) X text succeeds = AnswersWhole c X text × (succeeds ≡ true)
PlaysIn (Presented k) X text succeeds = PlaysPresented k X text succeeds

-- the text is not that of at most 64 sizes up to 10^18
abbrev pub IsNoPosition : List ℕ → Type 0
IsNoPosition text = IsNoPositionText text ⊎ HasTooMany MOST_SIZES text
    ⊎ HasTooLarge MOST_SIZES LARGEST_HEAP text

-- the text isn't that of a position, or memory was wanting
abbrev pub IsPositionCause : List ℕ → Stop → Type 0
IsPositionCause position Memory = ⊤
IsPositionCause position NotAPosition = IsNoPosition position
IsPositionCause position _ = ⊥

-- a certificate isn't read, for its own cause, or the text isn't that of a position
abbrev pub IsPlayCause : Option (List ℕ) → List ℕ → Failed → Failed → Stop → Type 0
IsPlayCause file position before after NotAPosition = IsNoPosition position
IsPlayCause file position before after stop = IsGivenCause file before after stop
