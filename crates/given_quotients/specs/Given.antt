-- What is found by the bytes that a file or standard input gives: a quotient, or the text of a no. This
-- project's own.
use Rattle.std.specs.Prelude.{ℕ, false, List, Result, Ok, Err, Vec}
use Rattle.dominance_text.specs.Said.{DominanceSaid}
use Rattle.dominance_text.specs.Spelling.{SpellsDominance}
use Rattle.whole_checker.specs.Solved.{IsSolved}
use Rattle.given_quotients.specs.Checks.{IsYes, SaysVerdict}
use Rattle.presented_text.specs.Spelling.{SpellsPresented}
use Rattle.presented_checker.specs.Refused.{Kept, IsRight}
use Rattle.given_quotients.specs.Says.{FindsBy}
use Rattle.given_quotients.specs.Told.{BeginsWhole, BeginsPresented, TellsRefused, TellsWhole}
use Rattle.given_quotients.specs.declared.giving.Quotient.{Quotient}
use Rattle.given_quotients.specs.declared.giving.Quotient.TheVariants.{Finite, Whole, Presented}

-- the bytes spell a whole game that is right, or the text is that of a true no
abbrev pub JudgesWhole : {A : Type 0} → List ℕ → Result DominanceSaid (Vec ℕ A) → Type 0
JudgesWhole bytes (Ok c) = SpellsDominance bytes c × IsSolved c
JudgesWhole bytes (Err text) = TellsWhole bytes text.items false

-- the bytes spell a presentation that is right, or the text is that of a true no
abbrev pub JudgesPresented : {A : Type 0} → List ℕ → Result Kept (Vec ℕ A) → Type 0
JudgesPresented bytes (Ok k) = SpellsPresented bytes k.said × IsRight k
JudgesPresented bytes (Err text) = TellsRefused bytes text.items

-- The bytes give the quotient: of a whole game, or by a presentation, if they begin so, and else the finite one that they
-- certify under the limit.
abbrev pub GivesBy : List ℕ → ℕ → Quotient → Type 0
GivesBy bytes limit (Finite c) = (BeginsWhole bytes → ⊥) × (BeginsPresented bytes → ⊥) × IsYes bytes limit c
GivesBy bytes limit (Whole c) = BeginsWhole bytes × SpellsDominance bytes c × IsSolved c
GivesBy bytes limit (Presented k) = BeginsPresented bytes × SpellsPresented bytes k.said × IsRight k

-- The bytes give none, and the text is that of a true no.
pub record RefusesBy (bytes : List ℕ) (limit : ℕ) (text : List ℕ) : Type 0 where
  pub whole : BeginsWhole bytes → TellsWhole bytes text false
  pub presented : BeginsPresented bytes → TellsRefused bytes text
  pub finite : (BeginsWhole bytes → ⊥) → (BeginsPresented bytes → ⊥) → SaysVerdict bytes limit text false

-- one or the other
abbrev pub JudgesQuotient : {A : Type 0} → List ℕ → ℕ → Result Quotient (Vec ℕ A) → Type 0
JudgesQuotient bytes limit (Ok q) = GivesBy bytes limit q
JudgesQuotient bytes limit (Err text) = RefusesBy bytes limit text.items

-- the same of the bytes that are given
abbrev pub Gives : (List ℕ → Type 0) → ℕ → Quotient → Type 0
Gives Are limit q = (bytes : List ℕ) × Are bytes × GivesBy bytes limit q

abbrev pub Refuses : (List ℕ → Type 0) → ℕ → List ℕ → Type 0
Refuses Are limit text = (bytes : List ℕ) × Are bytes × RefusesBy bytes limit text

abbrev pub FindsQuotient : {A : Type 0} → (List ℕ → Type 0) → ℕ → Result Quotient (Vec ℕ A) → Type 0
FindsQuotient Are limit found = FindsBy (Gives Are limit) (Refuses Are limit) found
