-- A presentation in lines: for readers, after the tables of Plambeck and Siegel, or for LaTeX, as `describe` prints a
-- finite quotient. This project's own form.
use Rattle.std.specs.Prelude.{ℕ, zero, suc, ◌+◌, ◌-◌, ◌==◌, List, [], ◌++◌, Option, length, if◌then◌else◌, codes, decimal, encode_utf8}
use Rattle.octal_code.specs.Text.{code_text}
use Rattle.presentations.specs.declared.TheConstants.{LETTERS}
use Rattle.presented_text.specs.Said.{PresentedSaid}
use Rattle.relations.specs.declared.text.Notation.{Notation}
use Rattle.relations.specs.declared.text.Notation.TheVariants as notation
use Rattle.label_descriptions.specs.Lists.{cycles_text, front, generators_text, heap_words_text, order_text, relations_text, words_text}
use Rattle.label_descriptions.specs.declared.lines.Style.{Style}
use Rattle.label_descriptions.specs.declared.lines.Style.TheVariants.{Plain, Latex}

-- how exponents are written in the lines
abbrev pub notation_of : Style → Notation
notation_of Plain = notation.Plain
notation_of Latex = notation.Latex

-- The index of a quotient and of its portion: the last heap that has a word of its own, and none of a whole game.
-- Plambeck and Siegel.
abbrev pub index_text : Style → PresentedSaid → List ℕ
index_text Plain c = if c.period == 0 then codes "_" ++ decimal c.heaps else []
index_text Latex c = if c.period == 0 then codes "_{" ++ decimal c.heaps ++ codes "}" else []

-- what stands before letter k, and the first k letters
abbrev pub before : Style → ℕ → List ℕ
before Plain k = front (codes " ") (codes ",") k
before Latex k = front [] (codes ",") k

abbrev pub letters_text : Style → ℕ → List ℕ
letters_text style zero = []
letters_text style (suc k) = letters_text style k ++ before style k ++ encode_utf8 (97 + k)

-- the game, the letters and the relations
abbrev pub head_pieces : Style → List ℕ → List ℕ → List ℕ → List ℕ → List ℕ
head_pieces Plain index code letters relations =
    codes "Q" ++ index ++ codes "(" ++ code ++ codes ") = <" ++ letters ++ codes " |" ++ relations ++ codes " >\n"
head_pieces Latex index code letters relations =
    codes "\\begin{flushleft}\n$\\mathcal{Q}" ++ index ++ codes "(\\mathbf{" ++ code ++ codes "})=\\langle "
    ++ letters ++ codes "\\mid " ++ relations ++ codes "\\rangle$\\\\\n"

abbrev pub head_text : Style → PresentedSaid → List ℕ
head_text style c =
    head_pieces style (index_text style c) (code_text c.code) (letters_text style (length c.letters))
    (relations_text (notation_of style) LETTERS c.relations (length c.relations))

-- the words of the portion
abbrev pub portion_pieces : Style → List ℕ → List ℕ → List ℕ
portion_pieces Plain index words = codes "P" ++ index ++ codes " = {" ++ words ++ codes " }\n"
portion_pieces Latex index words = codes "$\\mathcal{P}" ++ index ++ codes "=\\{" ++ words ++ codes "\\}$\\\\\n"

abbrev pub portion_text : Style → PresentedSaid → List ℕ
portion_text style c =
    portion_pieces style (index_text style c) (words_text (notation_of style) LETTERS c.portion (length c.portion))

-- a line of items behind their title
abbrev pub row : Style → List ℕ → List ℕ → List ℕ
row Plain title items = title ++ items ++ codes "\n"
row Latex title items = title ++ items ++ codes "\\\\\n"

-- the letters and relations, the portion and the cycles
abbrev pub monoid_text : Style → PresentedSaid → List ℕ
monoid_text style c =
    head_text style c ++ portion_text style c
    ++ row style (codes "cycles") (cycles_text (notation_of style) c.cycles (length c.cycles))

-- how many elements there are, how many relations, and how many words the portion has
abbrev pub count_pieces : Style → List ℕ → List ℕ → ℕ → ℕ → List ℕ
count_pieces Plain index order relations portion =
    order ++ codes " relations " ++ decimal relations ++ codes " portion " ++ decimal portion ++ codes "\n"
count_pieces Latex index order relations portion =
    codes "$|\\mathcal{Q}" ++ index ++ codes "|=" ++ order ++ codes "$, relations $" ++ decimal relations
    ++ codes "$, portion $" ++ decimal portion ++ codes "$\\\\\n"

abbrev pub count_text : Style → PresentedSaid → Option ℕ → List ℕ
count_text style c order =
    count_pieces style (index_text style c) (order_text (notation_of style) order) (length c.relations) (length c.portion)

-- the word of each heap of the list
abbrev pub heaps_pieces : Style → List ℕ → List ℕ
heaps_pieces Plain words = codes "heaps" ++ words ++ codes "\n"
heaps_pieces Latex words = codes "heaps $" ++ words ++ codes "$\\\\\n"

-- which heap is the last one, or how the words repeat
abbrev pub last_pieces : Style → ℕ → List ℕ
last_pieces Plain heaps = codes "heaps to " ++ decimal heaps ++ codes "\n"
last_pieces Latex heaps = codes "heaps to $" ++ decimal heaps ++ codes "$\n\\end{flushleft}\n"

abbrev pub repeat_pieces : Style → ℕ → ℕ → List ℕ
repeat_pieces Plain period start = codes "repeat " ++ decimal period ++ codes " from " ++ decimal start ++ codes "\n"
repeat_pieces Latex period start =
    codes "$\\Phi(n+" ++ decimal period ++ codes ")=\\Phi(n)$ for $n\\ge" ++ decimal start
    ++ codes "$\n\\end{flushleft}\n"

abbrev pub tail_text : Style → PresentedSaid → List ℕ
tail_text style c =
    if c.period == 0 then last_pieces style c.heaps else repeat_pieces style c.period (c.heaps - c.period + 1)

-- the letters and their heaps, and the words of all heaps
abbrev pub heap_text : Style → PresentedSaid → List ℕ
heap_text style c =
    row style (codes "generators") (generators_text (notation_of style) c.letters (length c.letters))
    ++ heaps_pieces style (heap_words_text (notation_of style) LETTERS c.words (length c.words))
    ++ tail_text style c

abbrev pub lines_text : Style → PresentedSaid → Option ℕ → List ℕ
lines_text style c order = monoid_text style c ++ count_text style c order ++ heap_text style c
