-- The rows of the pretending function in words. This project's own form, after the tables of Plambeck
-- and Siegel.
use Rattle.std.specs.Prelude.{◌≡◌, ℕ, zero, suc, ◌+◌, ◌-◌, ◌*◌, ◌/◌, ◌==◌, nat_le, min, List, [], ◌++◌, length, slice_index_or, if◌then◌else◌, codes, decimal}
use Rattle.misere_theory.specs.Certificates.{Certificate, phi_at}
use Rattle.relations.specs.Printed.{word_text}
use Rattle.relations.specs.declared.text.Notation.{Notation}
use Rattle.relations.specs.declared.text.Notation.TheVariants.{Plain, Latex}
use Rattle.descriptions.specs.Arrays.{before_row, closing}
use Rattle.descriptions.specs.declared.rows.Frame.{Frame}
use Rattle.descriptions.specs.declared.rows.Frame.TheVariants.{Lines, Arrays}

-- How many heaps stand in a row: the period, or its least multiple from 8 on, where that is at most
-- 16; else 12.
abbrev pub row_width : ℕ → ℕ
row_width period = if period == 0 then 12
    else (if nat_le ((period + 7) / period * period) 16 then (period + 7) / period * period else 12)

-- n spaces
abbrev pub spaces : ℕ → List ℕ
spaces zero = []
spaces (suc n) = spaces n ++ codes " "

-- the word of a heap, in the first n letters
abbrev pub heap_word : Notation → Certificate → ℕ → List (List ℕ) → ℕ → List ℕ
heap_word notation c n words heap = word_text notation n (slice_index_or words (phi_at c heap) [])

-- a text with spaces behind it, as wide as this
abbrev pub padded : ℕ → List ℕ → List ℕ
padded width text = text ++ spaces (width - length text)

-- a heap's word, as wide as this, and a space; or in its column
abbrev pub cell : Frame → Certificate → ℕ → List (List ℕ) → ℕ → List ℕ
cell (Lines width wide) c n words heap = padded width (heap_word Plain c n words heap) ++ codes " "
cell Arrays c n words heap = codes "&" ++ heap_word Latex c n words heap

-- the cells of the k heaps behind heap number `from`
abbrev pub cells : Frame → Certificate → ℕ → List (List ℕ) → ℕ → ℕ → List ℕ
cells frame c n words from zero = []
cells frame c n words from (suc k) =
    cells frame c n words from k ++ cell frame c n words (from + k + 1)

-- the number of the heap before the first of the row, with spaces before it, as wide as this
abbrev pub label : ℕ → ℕ → List ℕ
label width from = spaces (width - length (decimal from)) ++ decimal from ++ codes "+ "

-- the last heap that stands in a row, and how many rows there are
abbrev pub last_heap : Certificate → ℕ
last_heap c = c.start + c.period - 1

abbrev pub row_count : Certificate → ℕ
row_count c = (last_heap c + row_width c.period - 1) / row_width c.period

-- row number k has the words of the heaps behind one number up to another
abbrev pub row_from : Certificate → ℕ → ℕ
row_from c k = k * row_width c.period

abbrev pub row_to : Certificate → ℕ → ℕ
row_to c k = min (k * row_width c.period + row_width c.period) (last_heap c)

abbrev pub row : Frame → Certificate → ℕ → List (List ℕ) → ℕ → List ℕ
row (Lines width wide) c n words k = label wide (row_from c k)
    ++ cells (Lines width wide) c n words (row_from c k) (row_to c k - row_from c k - 1)
    ++ heap_word Plain c n words (row_to c k) ++ codes "\n"
row Arrays c n words k = before_row (min (row_width c.period) (last_heap c)) k
    ++ decimal (row_from c k) ++ codes "+"
    ++ cells Arrays c n words (row_from c k) (row_to c k - row_from c k)

-- the first k rows
abbrev pub rows : Frame → Certificate → ℕ → List (List ℕ) → ℕ → List ℕ
rows frame c n words zero = []
rows frame c n words (suc k) = rows frame c n words k ++ row frame c n words k

-- the text of all rows in lines, of words and of labels that are as wide as some numbers
abbrev pub IsRowsText : Certificate → ℕ → List (List ℕ) → List ℕ → Type 0
IsRowsText c n words text = (width : ℕ) × (wide : ℕ)
    × (text ≡ rows (Lines width wide) c n words (row_count c))

-- all rows in arrays
abbrev pub arrays_text : Certificate → ℕ → List (List ℕ) → List ℕ
arrays_text c n words = rows Arrays c n words (row_count c) ++ closing
