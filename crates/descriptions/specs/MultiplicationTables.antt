-- The multiplication table of a quotient, in the words of GAP, whose elements are numbered from 1 on. This
-- project's own.
use Rattle.std.specs.Prelude.{ℕ, zero, suc, ◌+◌, ◌==◌, List, [], ◌∷◌, ◌++◌, if◌then◌else◌, codes, decimal}
use Rattle.misere_theory.specs.Certificates.{Certificate}
use Rattle.monoid_table.specs.Grids.{Grid, times_in}
use Rattle.certificate.specs.Fields.{grid_of}
use Rattle.descriptions.specs.Systems.{title_text}

-- an element by its number in GAP
abbrev pub number_text : ℕ → List ℕ
number_text x = decimal (x + 1)

-- a comma before each element
abbrev pub more_numbers : List ℕ → List ℕ
more_numbers [] = []
more_numbers (x ∷ elements) = codes "," ++ number_text x ++ more_numbers elements

-- elements with a comma between each two
abbrev pub numbers_text : List ℕ → List ℕ
numbers_text [] = []
numbers_text (x ∷ elements) = number_text x ++ more_numbers elements

-- a comma, but not before the first one
abbrev pub comma : ℕ → List ℕ
comma k = if k == 0 then [] else codes ","

-- the products of x with the first k elements
abbrev pub products_text : Grid → ℕ → ℕ → List ℕ
products_text t x zero = []
products_text t x (suc y) = products_text t x y ++ comma y ++ number_text (times_in t x y)

-- the rows of the first k elements
abbrev pub rows_text : Grid → ℕ → List ℕ
rows_text t zero = []
rows_text t (suc x) =
    rows_text t x ++ comma x ++ codes "\n  [" ++ products_text t x t.order ++ codes "]"

-- the table T, of the texts of a title and of its rows
abbrev pub table_statement : (title rows : List ℕ) → List ℕ
table_statement title rows =
    codes "# " ++ title ++ codes ": SemigroupByMultiplicationTable(T)\nT := [" ++ rows ++ codes "];;\n"

-- the P-portion P, and the elements of the heaps 1, 2, .. to the end of the first period
abbrev pub list_statements : (portion heaps : List ℕ) → List ℕ
list_statements portion heaps =
    codes "P := [" ++ portion ++ codes "];;\nheaps := [" ++ heaps ++ codes "];;\n"

-- how the heaps go on
abbrev pub tail_statements : (start period : ℕ) → List ℕ
tail_statements start period =
    codes "start := " ++ decimal start ++ codes ";;\nperiod := " ++ decimal period ++ codes ";;\n"

-- all of them
abbrev pub table_text : Certificate → List ℕ
table_text c = table_statement (title_text c) (rows_text (grid_of c) c.order)
    ++ list_statements (numbers_text c.portion) (numbers_text c.phi) ++ tail_statements c.start c.period
