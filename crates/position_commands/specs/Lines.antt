-- What is printed of positions. This project's own.
use Rattle.std.specs.Prelude.{ℕ, List, ◌++◌, codes, decimal, if◌then◌else◌}
use Rattle.dominance.specs.Triples.{Triple}
use Rattle.presentations.specs.declared.TheConstants.{LETTERS}
use Rattle.relations.specs.declared.text.Notation.TheVariants.{Plain}
use Rattle.relations.specs.Printed.{word_text}
use Rattle.positions.specs.Text.{position_text}
use Rattle.positions.specs.declared.outcome.Outcome.{Outcome}
use Rattle.positions.specs.declared.outcome.Outcome.TheVariants.{P, N}

abbrev pub outcome_letter : Outcome → List ℕ
outcome_letter P = codes "P"
outcome_letter N = codes "N"

-- an element, its outcome, and a position
abbrev pub value_line : ℕ → Outcome → List ℕ → List ℕ
value_line e outcome sizes = codes "element " ++ decimal e ++ codes " " ++ outcome_letter outcome
    ++ codes " " ++ position_text sizes ++ codes "\n"

-- an element by its word, and its outcome
abbrev pub form_pieces : List ℕ → List ℕ → List ℕ
form_pieces word letter = codes "element " ++ word ++ codes " " ++ letter ++ codes "\n"

abbrev pub form_line : List ℕ → Outcome → List ℕ
form_line w outcome = form_pieces (word_text Plain LETTERS w) (outcome_letter outcome)

-- a triple, and its outcome
abbrev pub triple_line : Triple → Outcome → List ℕ
triple_line t outcome = codes "odd " ++ decimal (if t.odd then 1 else 0) ++ codes " weight "
    ++ decimal t.weight ++ codes " lead " ++ decimal t.lead ++ codes " " ++ outcome_letter outcome
    ++ codes "\n"

-- a position, and the outcomes of the two sums with it
abbrev pub apart_line : List ℕ → Outcome → Outcome → List ℕ
apart_line sizes first second = codes "apart " ++ position_text sizes ++ codes " "
    ++ outcome_letter first ++ codes " " ++ outcome_letter second ++ codes "\n"

abbrev pub alike_line : List ℕ
alike_line = codes "indistinguishable\n"

-- the line of two positions that aren't, if no third position is named
abbrev pub untried_line : List ℕ
untried_line = codes "distinguishable\n"

-- the line of a position that is too heavy
abbrev pub heavy_line : List ℕ
heavy_line = codes "a weight of 2^100 or more\n"

-- the line if there may be too many options of a heap
abbrev pub many_line : List ℕ
many_line = codes "more than 1000000 options of a heap\n"
