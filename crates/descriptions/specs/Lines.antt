-- The lines of a description but for those of the heaps, plain and for LaTeX, and the members of one
-- object of JSON that says the same. This project's own form, after the tables of Plambeck and Siegel.
use Rattle.std.specs.Prelude.{ℕ, zero, suc, ◌+◌, ◌==◌, List, [], ◌++◌, Option, Some, None, length, slice_index, if◌then◌else◌, codes, decimal, encode_utf8}
use Rattle.misere_theory.specs.Certificates.{Certificate, kind_of}
use Rattle.octal_code.specs.Text.{code_text}
use Rattle.presentations.specs.declared.read.Relation.{Relation}
use Rattle.relations.specs.Printed.{relations_text, words_text}
use Rattle.relations.specs.declared.text.Notation.{Notation}
use Rattle.relations.specs.declared.text.Notation.TheVariants.{Plain, Latex, Json}

-- a letter, behind a comma where others stand before it
abbrev pub letter_text : ℕ → List ℕ
letter_text letter = if letter == 0 then encode_utf8 (97 + letter)
    else codes "," ++ encode_utf8 (97 + letter)

-- the first n letters
abbrev pub letters_text : ℕ → List ℕ
letters_text zero = []
letters_text (suc n) = letters_text n ++ letter_text n

-- The index of a quotient and of its portion: none for that of all heaps, and the last heap M for that
-- of the heaps 1 to M. Plambeck and Siegel.
unfoldable pub index_text : Notation → Certificate → List ℕ
index_text Plain c = if kind_of c == 0 then [] else codes "_" ++ decimal (kind_of c)
index_text Latex c = if kind_of c == 0 then [] else codes "_{" ++ decimal (kind_of c) ++ codes "}"
index_text Json c = []

-- of all heaps, or of the first ones
abbrev pub kind_text : Certificate → List ℕ
kind_text c = if kind_of c == 0 then codes "full" else codes "partial"

-- the index, the code, the letters and the relations
abbrev pub head_line : Notation → Certificate → ℕ → List Relation → List ℕ
head_line Plain c n relations = codes "Q" ++ index_text Plain c ++ codes "(" ++ code_text c.code
    ++ codes ") = < " ++ letters_text n ++ codes " | "
    ++ relations_text Plain n (codes ", ") relations ++ codes " >\n"
head_line Latex c n relations = codes "\\begin{flushleft}\n$\\mathcal{Q}" ++ index_text Latex c
    ++ codes "(\\mathbf{" ++ code_text c.code ++ codes "})=\\langle " ++ letters_text n
    ++ codes "\\mid " ++ relations_text Latex n (codes "$, $") relations ++ codes "\\rangle$"
head_line Json c n relations = codes "{\"code\":\"" ++ code_text c.code ++ codes "\",\"kind\":\""
    ++ kind_text c ++ codes "\",\"relations\":[" ++ relations_text Json n (codes ",") relations
    ++ codes "]"

-- the index, and the words of the portion
abbrev pub portion_line : Notation → Certificate → ℕ → List (List ℕ) → List ℕ → List ℕ
portion_line Plain c n words elements = codes "P" ++ index_text Plain c ++ codes " = { "
    ++ words_text Plain n (codes ", ") words elements ++ codes " }\n"
portion_line Latex c n words elements = codes "\\\\\n$\\mathcal{P}" ++ index_text Latex c
    ++ codes "=\\{" ++ words_text Latex n (codes "$, $") words elements ++ codes "\\}$"
portion_line Json c n words elements =
    codes ",\"portion\":[" ++ words_text Json n (codes ",") words elements ++ codes "]"

-- a letter and the first heap of its element
abbrev pub generator_text : Notation → List ℕ → ℕ → List ℕ
generator_text Plain heaps letter = codes " " ++ encode_utf8 (97 + letter) ++ codes "="
    ++ decimal (slice_index heaps letter)
generator_text Latex heaps letter = codes " $" ++ encode_utf8 (97 + letter) ++ codes "=\\Phi("
    ++ decimal (slice_index heaps letter) ++ codes ")$"
generator_text Json heaps letter = (if letter == 0 then [] else codes ",") ++ codes "\""
    ++ encode_utf8 (97 + letter) ++ codes "\":" ++ decimal (slice_index heaps letter)

abbrev pub generators_text : Notation → List ℕ → ℕ → List ℕ
generators_text notation heaps zero = []
generators_text notation heaps (suc n) =
    generators_text notation heaps n ++ generator_text notation heaps n

abbrev pub generators_line : Notation → List ℕ → ℕ → List ℕ
generators_line Plain heaps n = codes "generators" ++ generators_text Plain heaps n ++ codes "\n"
generators_line Latex heaps n = codes "\\\\\ngenerators" ++ generators_text Latex heaps n
generators_line Json heaps n = codes ",\"generators\":{" ++ generators_text Json heaps n ++ codes "}"

-- tame with its number, or wild
abbrev pub tame_text : Notation → Option ℕ → List ℕ
tame_text Plain (Some n) = codes "tame " ++ decimal n
tame_text Plain None = codes "wild"
tame_text Latex (Some n) = codes "tame $\\mathcal{T}_{" ++ decimal n ++ codes "}$"
tame_text Latex None = codes "wild"
tame_text Json (Some n) = decimal n
tame_text Json None = codes "null"

-- how many elements there are, and how many of them are in the portion; tame or wild
abbrev pub count_line : Notation → Certificate → ℕ → Option ℕ → List ℕ
count_line Plain c portion tame = codes "order " ++ decimal c.order ++ codes " portion "
    ++ decimal portion ++ codes " " ++ tame_text Plain tame ++ codes "\n"
count_line Latex c portion tame = codes "\\\\\n$|\\mathcal{Q}" ++ index_text Latex c ++ codes "|="
    ++ decimal c.order ++ codes "$, $|\\mathcal{P}" ++ index_text Latex c ++ codes "|="
    ++ decimal portion ++ codes "$, " ++ tame_text Latex tame
count_line Json c portion tame =
    codes ",\"order\":" ++ decimal c.order ++ codes ",\"tame\":" ++ tame_text Json tame

-- a name, and the words of elements
abbrev pub list_line : Notation → List ℕ → ℕ → List (List ℕ) → List ℕ → List ℕ
list_line Plain name n words elements = name ++ codes " "
    ++ words_text Plain n (codes " ") words elements ++ codes "\n"
list_line Latex name n words elements = codes "\\\\\n" ++ name ++ codes " $"
    ++ words_text Latex n (codes "$, $") words elements ++ codes "$"
list_line Json name n words elements = codes ",\"" ++ name ++ codes "\":["
    ++ words_text Json n (codes ",") words elements ++ codes "]"

-- how the heaps repeat, or which is the last one
abbrev pub tail_line : Notation → Certificate → List ℕ
tail_line Plain c = if kind_of c == 0
    then codes "repeat " ++ decimal c.period ++ codes " from " ++ decimal c.start ++ codes "\n"
    else codes "heaps to " ++ decimal (kind_of c) ++ codes "\n"
tail_line Latex c = if kind_of c == 0
    then codes "\\noindent $\\Phi(n+" ++ decimal c.period ++ codes ")=\\Phi(n)$ for $n\\ge"
    ++ decimal c.start ++ codes "$\n"
    else codes "\\noindent heaps to $" ++ decimal (kind_of c) ++ codes "$\n"
tail_line Json c =
    codes ",\"start\":" ++ decimal c.start ++ codes ",\"period\":" ++ decimal c.period ++ codes "}\n"

-- the relations, the portion, the counts and the generators
abbrev pub front_lines : Notation → Certificate → List Relation → List (List ℕ) → List ℕ → Option ℕ
    → List ℕ → ℕ → List ℕ
front_lines notation c relations words portion tame heaps n =
    head_line notation c n relations ++ portion_line notation c n words portion
    ++ count_line notation c (length portion) tame ++ generators_line notation heaps n

-- what ends the lists
abbrev pub lists_end : Notation → List ℕ
lists_end Plain = []
lists_end Latex = codes "\n\\end{flushleft}\n"
lists_end Json = []

-- the units, the idempotents and the kernel
abbrev pub list_lines : Notation → List (List ℕ) → List ℕ → List ℕ → List ℕ → ℕ → List ℕ
list_lines notation words units idempotents kernel n =
    list_line notation (codes "units") n words units
    ++ list_line notation (codes "idempotents") n words idempotents
    ++ list_line notation (codes "kernel") n words kernel ++ lists_end notation
