-- What is found by the bytes of a text of a whole game, or of a presentation of an infinite quotient, and what is said by
-- it. This project's own.
use Rattle.std.specs.Prelude.{◌≡◌, ℕ, Bool, false, List, Some, None, Result, Ok, Err, Vec, codes}
use Rattle.dominance_text.specs.Spelling.{SpellsDominance}
use Rattle.whole_checker.specs.Solved.{IsSolved}
use Rattle.positions.specs.Text.{IsTextOf}
use Rattle.presented_text.specs.Spelling.{SpellsPresented}
use Rattle.presented_checker.specs.Refused.{Kept, IsRight}
use Rattle.given_quotients.specs.Says.{FindsBy, SaysGiven}
use Rattle.given_quotients.specs.Told.{BeginsWhole, BeginsPresented, TellsRefused, TellsWhole}
use Rattle.given_quotients.specs.declared.giving.Quotient.{Quotient}
use Rattle.given_quotients.specs.declared.giving.Quotient.TheVariants.{Finite, Whole, Presented}
use Rattle.position_commands.specs.Many.{AnswersGiven}
use Rattle.position_commands.specs.Said.{SaysTo}
use Rattle.position_commands.specs.declared.asking.Question.TheVariants.{Play}
use Rattle.verdict_commands.specs.QuotientLines.{TellsQuotient}
use Rattle.verdict_texts.specs.Lines.{no_line}

-- ---- what is found

-- the bytes spell a presentation that is right, of an infinite quotient
abbrev pub IsEndlessBy : List ℕ → Kept → Type 0
IsEndlessBy bytes k = SpellsPresented bytes k.said × IsRight k × (k.order ≡ None)

-- The bytes present no infinite quotient: they spell a presentation that is right of a finite one, and the text is a no of
-- its own; or they are refused.
pub data RefusesEndless (bytes text : List ℕ) : Type 0 where
  FiniteOrder : (k : Kept) (q : ℕ) → SpellsPresented bytes k.said → IsRight k → k.order ≡ Some q
      → text ≡ no_line 34 (codes "Finite") → RefusesEndless bytes text
  Refused : TellsRefused bytes text → RefusesEndless bytes text

-- the bytes present an infinite quotient, or else the text is that of a true no
abbrev pub JudgesEndless : {A : Type 0} → List ℕ → Result Kept (Vec ℕ A) → Type 0
JudgesEndless bytes (Ok k) = IsEndlessBy bytes k
JudgesEndless bytes (Err text) = RefusesEndless bytes text.items

-- The bytes show this: a whole game that is right, or a presentation of an infinite quotient, and begin so. They show no
-- certificate.
abbrev pub ShowsBy : List ℕ → Quotient → Type 0
ShowsBy bytes (Finite c) = ⊥
ShowsBy bytes (Whole c) = BeginsWhole bytes × SpellsDominance bytes c × IsSolved c
ShowsBy bytes (Presented k) = BeginsPresented bytes × IsEndlessBy bytes k

-- The bytes show nothing, and the text is that of a true no: to a whole game, or to a presentation, if the bytes begin so.
-- Others are neither.
pub record HidesBy (bytes text : List ℕ) : Type 0 where
  pub whole : BeginsWhole bytes → TellsWhole bytes text false
  pub presented : BeginsPresented bytes → RefusesEndless bytes text
  pub neither : (BeginsWhole bytes → ⊥) → (BeginsPresented bytes → ⊥) → text ≡ no_line 1 (codes "Text")

-- one or the other
abbrev pub JudgesInfinite : {A : Type 0} → List ℕ → Result Quotient (Vec ℕ A) → Type 0
JudgesInfinite bytes (Ok q) = ShowsBy bytes q
JudgesInfinite bytes (Err text) = HidesBy bytes text.items

-- the same of the bytes that are given
abbrev pub Shows : (List ℕ → Type 0) → Quotient → Type 0
Shows Are q = (bytes : List ℕ) × Are bytes × ShowsBy bytes q

abbrev pub Hides : (List ℕ → Type 0) → List ℕ → Type 0
Hides Are text = (bytes : List ℕ) × Are bytes × HidesBy bytes text

abbrev pub FindsInfinite : {A : Type 0} → (List ℕ → Type 0) → Result Quotient (Vec ℕ A) → Type 0
FindsInfinite Are found = FindsBy (Shows Are) (Hides Are) found

-- ---- what is said by it

-- the line of what such bytes show, or the text of a true no
abbrev pub ChecksInfinite : (List ℕ → Type 0) → List ℕ → Bool → Type 0
ChecksInfinite Are text accepted = SaysGiven TellsQuotient (Shows Are) (Hides Are) text accepted

-- what to do in the position that the word spells
abbrev pub PlaysInfinite : (List ℕ → Type 0) → List ℕ → List ℕ → Bool → Type 0
PlaysInfinite Are position text succeeds =
    (X : List ℕ) × IsTextOf position X × SaysGiven (SaysTo Play X) (Shows Are) (Hides Are) text succeeds

-- the same in the positions of the lines that are given
abbrev pub PlaysInfiniteLines : (List ℕ → Type 0) → (List ℕ → Type 0) → List ℕ → Bool → Type 0
PlaysInfiniteLines Are AreLines text succeeds =
    SaysGiven (AnswersGiven AreLines) (Shows Are) (Hides Are) text succeeds
