-- The ideal of a quotient's relations, in the words of Singular and of GAP: x - y for each relation
-- x = y, over the rationals, in the graded reverse lexicographic ordering with the last letter the
-- largest. This project's own form.
use Rattle.std.specs.Prelude.{ℕ, zero, suc, ◌+◌, ◌-◌, ◌==◌, List, [], ◌∷◌, ◌++◌, slice_index, if◌then◌else◌, codes, decimal, encode_utf8}
use Rattle.misere_theory.specs.Certificates.{Certificate}
use Rattle.octal_code.specs.Text.{code_text}
use Rattle.presentations.specs.declared.read.Relation.{Relation}
use Rattle.relations.specs.Printed.{factor_text, or_one}
use Rattle.relations.specs.declared.text.Notation.TheVariants.{Plain}
use Rattle.descriptions.specs.Lines.{index_text}
use Rattle.descriptions.specs.declared.systems.System.{System}
use Rattle.descriptions.specs.declared.systems.System.TheVariants.{Singular, Gap}

-- a sign, where factors stand on both sides of it
abbrev pub sign_between : List ℕ → List ℕ → List ℕ
sign_between (x ∷ xs) (y ∷ ys) = codes "*"
sign_between _ _ = []

-- the factors of the first n letters with a sign between each two
abbrev pub signed_factors : ℕ → List ℕ → List ℕ
signed_factors zero word = []
signed_factors (suc n) word = signed_factors n word
    ++ sign_between (signed_factors n word) (factor_text Plain n (slice_index word n))
    ++ factor_text Plain n (slice_index word n)

-- a word as a monomial, 1 for no factor
abbrev pub monomial_text : ℕ → List ℕ → List ℕ
monomial_text n word = or_one (signed_factors n word)

-- a relation as a polynomial, the difference of its words
abbrev pub polynomial_text : ℕ → Relation → List ℕ
polynomial_text n r = monomial_text n r.left ++ codes "-" ++ monomial_text n r.right

-- a comma before each polynomial
abbrev pub more_polynomials : ℕ → List Relation → List ℕ
more_polynomials n [] = []
more_polynomials n (r ∷ relations) =
    codes ",\n  " ++ polynomial_text n r ++ more_polynomials n relations

-- a line for each polynomial
abbrev pub polynomials_text : ℕ → List Relation → List ℕ
polynomials_text n [] = []
polynomials_text n (r ∷ relations) = polynomial_text n r ++ more_polynomials n relations

-- letter number k of n, from the last on: the largest variable comes first
abbrev pub letter_at : ℕ → ℕ → List ℕ
letter_at n k = encode_utf8 (97 + (n - 1 - k))

-- the letter, behind a comma where others stand before it
abbrev pub variable_text : ℕ → ℕ → List ℕ
variable_text n k = (if k == 0 then [] else codes ",") ++ letter_at n k

-- the first k of n letters
abbrev pub variables_text : ℕ → ℕ → List ℕ
variables_text n zero = []
variables_text n (suc k) = variables_text n k ++ variable_text n k

-- the letter as GAP makes a new one; the ordering goes by when each was made
abbrev pub indeterminate_text : ℕ → ℕ → List ℕ
indeterminate_text n k = letter_at n k ++ codes " := Indeterminate(Rationals, \""
    ++ letter_at n k ++ codes "\" : new);;\n"

-- the first k of n letters
abbrev pub indeterminates_text : ℕ → ℕ → List ℕ
indeterminates_text n zero = []
indeterminates_text n (suc k) = indeterminates_text n k ++ indeterminate_text n k

-- the quotient and how many elements it has
abbrev pub title_text : Certificate → List ℕ
title_text c = codes "Q" ++ index_text Plain c ++ codes "(" ++ code_text c.code
    ++ codes "), of order " ++ decimal c.order

-- the ideal I in a ring R, and the ordering O of GAP
abbrev pub system_text : System → Certificate → ℕ → List Relation → List ℕ
system_text Singular c n relations = codes "// " ++ title_text c
    ++ codes ": vdim(std(I))\nring R = 0,(" ++ variables_text n n ++ codes "),dp;\nideal I =\n  "
    ++ polynomials_text n relations ++ codes ";\n"
system_text Gap c n relations = codes "# " ++ title_text c
    ++ codes ": ReducedGroebnerBasis(I, O)\n" ++ indeterminates_text n n ++ codes "I := [\n  "
    ++ polynomials_text n relations ++ codes "];;\nO := MonomialGrevlexOrdering("
    ++ variables_text n n ++ codes ");;\n"
