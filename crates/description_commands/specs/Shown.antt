-- The lines of a quotient that a file gives. This project's own.
use Rattle.std.specs.Prelude.{◌≡◌, ℕ, ◌+◌, ◌==◌, Bool, true, List, [], ◌++◌, if◌then◌else◌, codes, decimal}
use Rattle.misere_theory.specs.Certificates.{Certificate, claim_of, kind_of, phi_at}
use Rattle.octal_code.specs.Text.{code_text}
use Rattle.positions.specs.Text.{position_text}
use Rattle.answers.specs.Spelled.{AreSpelled}
use Rattle.given_quotients.specs.Given.{Gives, Refuses}
use Rattle.given_quotients.specs.Says.{SaysGiven}
use Rattle.given_quotients.specs.declared.giving.Quotient.{Quotient}
use Rattle.given_quotients.specs.declared.giving.Quotient.TheVariants.{Finite, Whole, Presented}
use Rattle.label_descriptions.specs.Whole.{IsWholeText}
use Rattle.label_descriptions.specs.declared.whole_describing.Output.TheVariants.{Plain}
use Rattle.label_descriptions.specs.Described.{presented_text_for}

-- the first two lines
abbrev pub head_lines : Certificate → List ℕ
head_lines c = codes "code " ++ code_text c.code ++ codes "\norder " ++ decimal c.order
    ++ codes "\n"

-- how the heaps repeat
abbrev pub repeat_line : Certificate → List ℕ
repeat_line c =
    codes "repeat " ++ decimal c.period ++ codes " from " ++ decimal c.start ++ codes "\n"

-- the last heap of which a partial certificate speaks
abbrev pub partial_tail_line : Certificate → List ℕ
partial_tail_line c = codes "heaps to " ++ decimal (kind_of c) ++ codes "\n"

-- the last line: the one or the other, by the kind of the certificate
abbrev pub tail_line : Certificate → List ℕ
tail_line c = if kind_of c == 0 then repeat_line c else partial_tail_line c

-- P for an element of the portion, and N for any other
abbrev pub letter_of : Certificate → ℕ → List ℕ
letter_of c e = if (claim_of c).portion e then codes "P" else codes "N"

-- an element, its letter, and a position
abbrev pub element_line : ℕ → List ℕ → List ℕ → List ℕ
element_line e letter position = codes "element " ++ decimal e ++ codes " " ++ letter ++ codes " "
    ++ position ++ codes "\n"

-- The lines of the elements below n, with the positions that their keys spell.
pub data AreElementLines (c : Certificate) : ℕ → List ℕ → Type 0 where
  NoElement : AreElementLines c 0 []
  NextElement : {text : List ℕ} (e : ℕ) (sizes : List ℕ) → AreElementLines c e text
      → AreSpelled c e sizes
      → AreElementLines c (e + 1) (text ++ element_line e (letter_of c e) (position_text sizes))

-- a heap and its element
abbrev pub heap_line : ℕ → ℕ → List ℕ
heap_line heap element = codes "heap " ++ decimal heap ++ codes " " ++ decimal element ++ codes "\n"

-- The lines of the heaps from 1 to below n.
pub data AreHeapLines (c : Certificate) : ℕ → List ℕ → Type 0 where
  NoHeap : AreHeapLines c 1 []
  NextHeap : {text : List ℕ} (heap : ℕ) → AreHeapLines c heap text
      → AreHeapLines c (heap + 1) (text ++ heap_line heap (phi_at c heap))

-- The text is that of the quotient: its code and order, its elements, its heaps, and how they
-- repeat or which is the last.
pub record IsQuotientText (c : Certificate) (text : List ℕ) : Type 0 where
  pub elements : List ℕ
  pub heaps : List ℕ
  pub are_elements : AreElementLines c c.order elements
  pub are_heaps : AreHeapLines c (c.start + c.period) heaps
  pub lines : text ≡ head_lines c ++ elements ++ heaps ++ tail_line c

-- the same of each kind of quotients
abbrev pub ShowsOf : Quotient → List ℕ → Bool → Type 0
ShowsOf (Finite c) text succeeds = IsQuotientText c text × (succeeds ≡ true)
ShowsOf (Whole c) text succeeds = IsWholeText Plain c text × (succeeds ≡ true)
ShowsOf (Presented k) text succeeds = (text ≡ presented_text_for Plain k) × (succeeds ≡ true)

-- the text is that of the quotient that such bytes give under the limit, or of a true no
abbrev pub Shows : (List ℕ → Type 0) → ℕ → List ℕ → Bool → Type 0
Shows Are limit text succeeds = SaysGiven ShowsOf (Gives Are limit) (Refuses Are limit) text succeeds
