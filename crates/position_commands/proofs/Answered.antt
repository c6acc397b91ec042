-- Lines that are answered as positions.
use Rattle.std.proofs.Common.{◌≡◌, ◌≤◌, ◌↔◌, ℕ, Bool, List, Option, Result, Ok, Err, IfOk, Vec, inl, inr, length, subst, sym}
use Rattle.positions.specs.Text.{HasTooLarge, HasTooMany, IsNoPositionText, IsTextOf}
use Rattle.positions.specs.declared.fault.PositionFault.{PositionFault}
use Rattle.positions.specs.declared.fault.PositionFault.TheVariants.{Text, TooMany, TooLarge}
use Rattle.positions.specs.declared.position.TheConstants.{MOST_SIZES, LARGEST_HEAP}
use Rattle.command_results.specs.declared.said.Said.{Said}
use Rattle.command_results.specs.Lines.{AnswersLines, AreLinesOf}
use Rattle.command_results.specs.declared.lines.TheConstants.{LARGEST_INPUT}
use Rattle.given_quotients.specs.Says.{FindsBy, SaysFound, SaysGiven}
use Rattle.given_quotients.proofs.Says.{says_given}
use Rattle.given_quotients.specs.declared.giving.Quotient.{Quotient}
use Rattle.position_commands.specs.Plays.{IsNoPosition, PlaysIn}
use Rattle.position_commands.specs.Many.{AnswersGiven, AnswersLine}
use Rattle.position_commands.specs.Many.AnswersLine.{InPosition}

-- a line that is read as a position isn't none
pub is_position : {A : Type 0} (line : List ℕ) (r : Result A PositionFault) (X : A) → r ≡ Ok X
    → ((r ≡ Err Text) ↔ IsNoPositionText line)
    → ((r ≡ Err TooMany) ↔ HasTooMany MOST_SIZES line)
    → ((r ≡ Err TooLarge) ↔ HasTooLarge MOST_SIZES LARGEST_HEAP line) → IsNoPosition line → ⊥
is_position line r X is text many large (inl none) = let fails = text.1 none in cc
is_position line r X is text many large (inr (inl none)) = let fails = many.1 none in cc
is_position line r X is text many large (inr (inr none)) = let fails = large.1 none in cc

-- what is said in a position is said of its line
pub in_position : {E : Type 0} (q : Quotient) (line X : List ℕ) (r : Result Said E)
    → IsTextOf line X → (IsNoPosition line → ⊥)
    → IfOk r (λ s. PlaysIn q X s.text.items s.succeeds)
    → IfOk r (λ s. AnswersLine q line s.text.items s.succeeds)
in_position q line X (Ok s) read some plays = InPosition X read some plays
in_position q line X (Err e) read some plays = tt

-- what is said of the lines is said by what was found
pub answers_found : {A : Type 0} (AreLines : List ℕ → Type 0) (found : Result Quotient (Vec ℕ A)) (q : Quotient)
    (lines read text : List ℕ) (succeeds : Bool) → found ≡ Ok q → AreLines lines → length lines ≤ LARGEST_INPUT
    → read ≡ lines → AnswersLines (AnswersLine q) read text succeeds
    → SaysFound (AnswersGiven AreLines) found text succeeds
answers_found {A = A} AreLines found q lines read text succeeds is given few same says =
    subst (λ (r : Result Quotient (Vec ℕ A)). SaysFound (AnswersGiven AreLines) r text succeeds) (sym is)
    (lines, given, few, subst (λ (l : List ℕ). AnswersLines (AnswersLine q) l text succeeds) same says)

-- what is said of the lines that are left of a stream is said of those of one with as much left
pub answers_given : {A : Type 0} (Gives : Quotient → Type 0) (Refuses : List ℕ → Type 0) (left mid : Option (List ℕ))
    (found : Result Quotient (Vec ℕ A)) (text : List ℕ) (succeeds : Bool) → mid ≡ left → FindsBy Gives Refuses found
    → SaysFound (AnswersGiven (AreLinesOf mid)) found text succeeds
    → SaysGiven (AnswersGiven (AreLinesOf left)) Gives Refuses text succeeds
answers_given Gives Refuses left mid found text succeeds same given says =
    says_given (AnswersGiven (AreLinesOf left)) Gives Refuses found text succeeds given
    (subst (λ (l : Option (List ℕ)). SaysFound (AnswersGiven (AreLinesOf l)) found text succeeds) same says)
