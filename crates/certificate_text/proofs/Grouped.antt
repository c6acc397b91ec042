-- The text of a certificate, grouped as it is read: the lists, and then the table by the format.
use Rattle.std.proofs.Common.{◌≡◌, ℕ, ◌==◌, Bool, true, false, if◌then◌else◌, List, [], ◌∷◌, ◌++◌, map, refl, ap, ◌∙◌, append_assoc, codes}
use Rattle.std.specs.Fmt.{decimal}
use Rattle.std.proofs.lemmas.List.{append-nil}
use Rattle.misere_theory.specs.Certificates.{Certificate, format_of}
use Rattle.octal_code.specs.Text.{code_text}
use Rattle.compact_certificates.specs.Compact.{compacted}
use Rattle.certificate_text.specs.Spelling.{Line, spaced, row_line, text, lines}
use Rattle.certificate_text.proofs.Rows.{rows_text}
use Rattle.certificate_text.proofs.Lists.{line_text, lists_text}
use Rattle.certificate_text.proofs.Tables.{table_text, first_rows_text}

abbrev pub text_then : List Line → List ℕ → List ℕ
text_then [] rest = rest
text_then (l ∷ ls) rest = line_text l.name l.words (text_then ls rest)

pub text_then_is : (ls : List Line) (rest : List ℕ) → text ls ++ rest ≡ text_then ls rest
text_then_is [] rest = refl
text_then_is (l ∷ ls) rest =
    append_assoc l.name (spaced l.words ++ 10 ∷ text ls) rest ∙ ap (λ (t : List ℕ). l.name ++ t)
    (append_assoc (spaced l.words) (10 ∷ text ls) rest
    ∙ ap (λ (t : List ℕ). spaced l.words ++ (10 ∷ t)) (text_then_is ls rest))

pub rows_then : (rows : List (List ℕ)) (ls : List Line) (rest : List ℕ)
    → text_then (map row_line rows ++ ls) rest ≡ rows_text rows (text_then ls rest)
rows_then [] ls rest = refl
rows_then (row ∷ rows) ls rest =
    ap (λ (t : List ℕ). codes "row" ++ (spaced (map decimal row) ++ 10 ∷ t))
    (rows_then rows ls rest)

abbrev apart_line : Certificate → Line
apart_line c = record { name = codes "apart"; words = map decimal c.apart }

abbrev end_line : Line
end_line = record { name = codes "end"; words = [] }

-- the lines of the table, in the third format or not
abbrev pub table_lines : Certificate → Bool → List Line
table_lines c third =
    map row_line (if third then compacted c else c).rows
    ++ ((if third then [] else apart_line c ∷ []) ++ end_line ∷ [])

pub text_is : (c : Certificate) (rest : List ℕ)
    → text (lines c) ++ rest
    ≡ lists_text c (text_then (table_lines c (format_of c == 3)) rest)
text_is c rest =
    text_then_is (lines c) rest
    ∙ rw (
      append-nil (decimal (format_of c)),
      append-nil (code_text c.code),
      append-nil (decimal c.order),
      append-nil (decimal c.start),
      append-nil (decimal c.period),
    ) refl

text_by : (c : Certificate) (rest : List ℕ) (third : Bool) → (format_of c == 3) ≡ third
    → text (lines c) ++ rest ≡ lists_text c (text_then (table_lines c third) rest)
text_by c rest third e =
    text_is c rest
    ∙ ap (λ (b : Bool). lists_text c (text_then (table_lines c b) rest)) e

-- in the first two formats all rows and the separators
pub full_text : (c : Certificate) (rest : List ℕ) → (format_of c == 3) ≡ false
    → text (lines c) ++ rest ≡ lists_text c (table_text c.rows c.apart rest)
full_text c rest e =
    text_by c rest false e
    ∙ ap (lists_text c) (rows_then c.rows (apart_line c ∷ end_line ∷ []) rest)

-- in the third the first rows alone
pub first_text : (c : Certificate) (rest : List ℕ) → (format_of c == 3) ≡ true
    → text (lines c) ++ rest ≡ lists_text c (first_rows_text (compacted c).rows rest)
first_text c rest e =
    text_by c rest true e
    ∙ ap (lists_text c) (rows_then (compacted c).rows (end_line ∷ []) rest)
