-- The lines of quotients. This project's own.
use Rattle.std.specs.Prelude.{◌≡◌, ◌++◌, ◌+◌, ◌-◌, ◌==◌, if◌then◌else◌, ℕ, Option, Some, None, Bool, true, List, length, codes, decimal}
use Rattle.octal_code.specs.Text.{code_text}
use Rattle.presented_text.specs.Said.{PresentedSaid}
use Rattle.presented_checker.specs.Refused.{Kept}
use Rattle.given_quotients.specs.Told.{whole_line}
use Rattle.given_quotients.specs.declared.giving.Quotient.{Quotient}
use Rattle.given_quotients.specs.declared.giving.Quotient.TheVariants.{Finite, Whole, Presented}
use Rattle.verdict_texts.specs.Lines.{yes_line}

-- The heaps: the last one that has a word of its own; or in a whole game the heap from which on words repeat, and after
-- how many heaps they do.
abbrev pub heaps_text : PresentedSaid → List ℕ
heaps_text c =
    if c.period == 0 then codes "heaps " ++ decimal c.heaps
    else codes "start " ++ decimal (c.heaps - c.period + 1) ++ codes " period " ++ decimal c.period

-- The line of a presentation that is right: the code, how many elements the quotient has, and the heaps.
abbrev pub finite_line : PresentedSaid → ℕ → List ℕ
finite_line c q =
    codes "yes " ++ code_text c.code ++ codes " order " ++ decimal q ++ codes " " ++ heaps_text c ++ codes "\n"

-- The line of one with infinitely many elements: the code, the heaps, and how many relations there are.
abbrev pub endless_line : PresentedSaid → ℕ → List ℕ
endless_line c n =
    codes "infinite " ++ code_text c.code ++ codes " " ++ heaps_text c ++ codes " relations " ++ decimal n ++ codes "\n"

-- the one or the other
abbrev pub line_by : PresentedSaid → Option ℕ → List ℕ
line_by c (Some q) = finite_line c q
line_by c None = endless_line c (length c.relations)

abbrev pub presented_line : Kept → List ℕ
presented_line k = line_by k.said k.order

-- the line of a quotient of any kind
abbrev pub quotient_line : Quotient → List ℕ
quotient_line (Finite c) = yes_line c
quotient_line (Whole c) = whole_line c.code
quotient_line (Presented k) = presented_line k

-- the text is that line, and a yes
abbrev pub TellsQuotient : Quotient → List ℕ → Bool → Type 0
TellsQuotient q text accepted = (text ≡ quotient_line q) × (accepted ≡ true)
