-- What accepted texts of whole games and presentations are of. This project's own.
use Rattle.std.specs.Prelude.{ℕ, ◌==◌, if◌then◌else◌, Option, Some, None, List}
use Rattle.presented_text.specs.Said.{PresentedSaid}
use Rattle.opened.specs.declared.text.AcceptedText.{AcceptedText}
use Rattle.opened.specs.declared.text.AcceptedText.TheVariants.{Whole, Presented}

-- the code of the game
abbrev pub code_of : AcceptedText → List ℕ
code_of (Whole c) = c.code
code_of (Presented k) = k.said.code

-- how far the heaps of a presentation go, or 0 if their words repeat
abbrev pub last_of : PresentedSaid → ℕ
last_of c = if c.period == 0 then c.heaps else 0

-- 0 if it is of the whole game, and else how far its heaps go
abbrev pub kind_of : AcceptedText → ℕ
kind_of (Whole c) = 0
kind_of (Presented k) = last_of k.said

-- 0 for none, and else the number
abbrev pub number_or_none : Option ℕ → ℕ
number_or_none None = 0
number_or_none (Some q) = q

-- 0 if its quotient is infinite, and else how many elements this has
abbrev pub order_of : AcceptedText → ℕ
order_of (Whole c) = 0
order_of (Presented k) = number_or_none k.order
