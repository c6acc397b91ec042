-- What stands between the rows of arrays of LaTeX. This project's own form, after the tables of Plambeck
-- and Siegel.
use Rattle.std.specs.Prelude.{ℕ, zero, suc, ◌+◌, ◌%◌, ◌==◌, List, [], ◌++◌, if◌then◌else◌, codes, decimal}

-- a column of words for each heap of a row
abbrev pub columns : ℕ → List ℕ
columns zero = []
columns (suc k) = columns k ++ codes "c"

-- the numbers of the columns
abbrev pub number : ℕ → List ℕ
number k = codes "&" ++ decimal k

abbrev pub numbers : ℕ → List ℕ
numbers zero = []
numbers (suc k) = numbers k ++ number (k + 1)

-- what stands before the rows of an array, and behind them
abbrev pub opening : ℕ → List ℕ
opening many = codes "\\begin{center}\n\\makebox[0pt]{$\\begin{array}{r|" ++ columns many
    ++ codes "}\n" ++ numbers many ++ codes "\\\\\\hline\n"

abbrev pub closing : List ℕ
closing = codes "\n\\end{array}$}\n\\end{center}\n"

-- How many rows stand in an array: so that it fits a page.
abbrev pub rows_of_an_array : ℕ
rows_of_an_array = 24

-- what stands before row number k
abbrev pub before_row : ℕ → ℕ → List ℕ
before_row many k = if k == 0 then opening many
    else (if k % rows_of_an_array == 0 then closing ++ opening many else codes "\\\\\n")
