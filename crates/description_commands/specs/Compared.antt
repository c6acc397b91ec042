-- What is said of the quotients that two files give, and why nothing is. This project's own.
use Rattle.std.specs.Prelude.{◌≡◌, ◌⊎◌, ◌++◌, ℕ, Bool, true, false, List, Option, Some, None, Result, Ok, Err, Vec, codes}
use Rattle.misere_theory.specs.Certificates.{Certificate, claim_of}
use Rattle.isomorphisms.specs.Comparisons.{HasMoreLists, Tells}
use Rattle.isomorphisms.specs.Isomorphism.{IsMap}
use Rattle.isomorphisms.specs.declared.comparing.Difference.{Difference}
use Rattle.given_quotients.specs.Checks.{Failed, IsGivenCause}
use Rattle.given_quotients.specs.Given.{Gives, Refuses}
use Rattle.given_quotients.specs.declared.giving.Quotient.{Quotient as Found}
use Rattle.command_results.specs.declared.stop.Stop.{Stop}
use Rattle.presented_checker.specs.Refused.{Kept}
use Rattle.description_commands.specs.Alike.{AreAlike, AreIsomorphic}
use Rattle.description_commands.specs.Lines.{alike_lines, difference_lines, endless_line, first_endless_lines, gave_up_line, same_lines, second_endless_lines, undecided_line, unmade_line}
use Rattle.description_commands.specs.Operands.{IsOperandOf}
use Rattle.description_commands.specs.declared.operands.Operand.{Operand}
use Rattle.description_commands.specs.declared.operands.Operand.TheVariants.{Certificate as Certified, Endless, Unmade}
use Rattle.description_commands.specs.declared.comparing.TheConstants.{MOST_LISTS}

-- ---- what is said

-- The map is an isomorphism of the two quotients; or there is none, and what tells them apart is
-- true; or there are more lists of images to try than are tried.
abbrev pub SaysOf : Certificate → Certificate → List ℕ → Bool → Type 0
SaysOf c d text true =
    (images : List ℕ) × IsMap (claim_of c) (claim_of d) images × (text ≡ same_lines images)
SaysOf c d text false =
    ((why : Difference) × Tells c d why × (text ≡ difference_lines c d why))
    ⊎ (HasMoreLists c d MOST_LISTS × (text ≡ gave_up_line))

-- The same of two infinite quotients. They are isomorphic if their presentations are alike; else nothing is decided. One
-- that isn't presented isn't compared.
abbrev pub SaysOfEndless : Option Kept → Option Kept → List ℕ → Bool → Type 0
SaysOfEndless (Some k) (Some l) text true = AreIsomorphic k.said l.said × (text ≡ alike_lines)
SaysOfEndless (Some k) (Some l) text false = (AreAlike k.said l.said → ⊥) × (text ≡ undecided_line)
SaysOfEndless (Some k) None text succeeds = (text ≡ endless_line) × (succeeds ≡ false)
SaysOfEndless None (Some l) text succeeds = (text ≡ endless_line) × (succeeds ≡ false)
SaysOfEndless None None text succeeds = (text ≡ endless_line) × (succeeds ≡ false)

-- The same of any two quotients. If one alone is infinite, they aren't isomorphic. A finite one that is presented, and of
-- which no certificate was made, isn't compared.
abbrev pub SaysOfOperands : Operand → Operand → List ℕ → Bool → Type 0
SaysOfOperands (Certified c) (Certified d) text succeeds = SaysOf c d text succeeds
SaysOfOperands (Certified c) (Endless o) text succeeds = (text ≡ second_endless_lines) × (succeeds ≡ false)
SaysOfOperands (Certified c) Unmade text succeeds = (text ≡ unmade_line) × (succeeds ≡ false)
SaysOfOperands (Endless o) (Certified d) text succeeds = (text ≡ first_endless_lines) × (succeeds ≡ false)
SaysOfOperands (Endless o) (Endless p) text succeeds = SaysOfEndless o p text succeeds
SaysOfOperands (Endless o) Unmade text succeeds = (text ≡ first_endless_lines) × (succeeds ≡ false)
SaysOfOperands Unmade (Certified d) text succeeds = (text ≡ unmade_line) × (succeeds ≡ false)
SaysOfOperands Unmade (Endless o) text succeeds = (text ≡ second_endless_lines) × (succeeds ≡ false)
SaysOfOperands Unmade Unmade text succeeds = (text ≡ unmade_line) × (succeeds ≡ false)

-- the same where the second was found, and the text of its no where it wasn't
abbrev pub SaysFound : {A : Type 0} → Operand → Result Found (Vec ℕ A) → List ℕ → Bool → Type 0
SaysFound s (Ok q) text succeeds = (t : Operand) × IsOperandOf q t × SaysOfOperands s t text succeeds
SaysFound s (Err refused) text succeeds =
    (text ≡ codes "second: " ++ refused.items) × (succeeds ≡ false)

-- What is said of a quotient and that which such bytes give under the limit, or a true no of
-- these.
pub data ComparesBeside (s : Operand) (Are : List ℕ → Type 0) (limit : ℕ) (text : List ℕ)
    (succeeds : Bool) : Type 0 where
  Quotient : (q : Found) (t : Operand) → Gives Are limit q → IsOperandOf q t → SaysOfOperands s t text succeeds
      → ComparesBeside s Are limit text succeeds
  NoQuotient : (no : List ℕ) → Refuses Are limit no → text ≡ codes "second: " ++ no
      → succeeds ≡ false → ComparesBeside s Are limit text succeeds

-- What is said of the two quotients that such bytes give under the limit, or a true no of the
-- first bytes, or of the second.
pub data Compares (Are Other : List ℕ → Type 0) (limit : ℕ) (text : List ℕ) (succeeds : Bool)
    : Type 0 where
  Beside : (q : Found) (s : Operand) → Gives Are limit q → IsOperandOf q s
      → ComparesBeside s Other limit text succeeds → Compares Are Other limit text succeeds
  NoFirst : (no : List ℕ) → Refuses Are limit no → text ≡ codes "first: " ++ no
      → succeeds ≡ false → Compares Are Other limit text succeeds

-- what is known to be left of standard input for the second certificate: nothing is, where the first
-- was read from it
abbrev pub left_behind : Option (List ℕ) → Option (List ℕ) → Option (List ℕ)
left_behind None left = None
left_behind (Some file) left = left

-- ---- why nothing is said

-- such bytes give a quotient under the limit
abbrev pub IsAccepted : (List ℕ → Type 0) → ℕ → Type 0
IsAccepted Are limit = (q : Found) × Gives Are limit q

-- the one certificate isn't read, or the other, for its own cause; or memory was wanting
abbrev pub IsCompareCause : Option (List ℕ) → Option (List ℕ) → Failed → Failed → Stop → Type 0
IsCompareCause first second before after stop =
    IsGivenCause first before after stop ⊎ IsGivenCause second before after stop
