-- The one text of each certificate, `mqc 1`, `mqc 2` or `mqc 3`: these lines in this order, each
-- ended by one LF, with single spaces, nothing before and nothing behind. The ranges of the numbers
-- are the theory's `InRanges`, and which of the three formats it is its `format_of`. All of it is
-- this project's own.
use Rattle.std.specs.Prelude.{◌≡◌, ℕ, ◌≤◌, ◌==◌, if◌then◌else◌, List, [], ◌∷◌, ◌++◌, length, map, codes}
use Rattle.std.specs.Fmt.{decimal}
use Rattle.misere_theory.specs.Certificates.{Certificate, InRanges, format_of}
use Rattle.octal_code.specs.Text.{code_text}
use Rattle.compact_certificates.specs.Compact.{Follows, compacted}
use Rattle.certificate_text.specs.declared.TheConstants.{LONGEST_TEXT}

-- a line is its name and its words
pub record Line : Type 0 where
  pub name : List ℕ
  pub words : List (List ℕ)

-- each word stands behind one space
abbrev pub spaced : List (List ℕ) → List ℕ
spaced [] = []
spaced (word ∷ words) = 32 ∷ word ++ spaced words

-- each line is ended by one LF
abbrev pub text : List Line → List ℕ
text [] = []
text (line ∷ lines) = line.name ++ (spaced line.words ++ (10 ∷ text lines))

-- f:h
abbrev pub key_word : ℕ × ℕ → List ℕ
key_word key = decimal key.0 ++ 58 ∷ decimal key.1

abbrev pub row_line : List ℕ → Line
row_line row = record { name = codes "row"; words = map decimal row }

-- what the text says of the certificate: all of it, or in the third format what doesn't follow
abbrev pub said : Certificate → Certificate
said c = if format_of c == 3 then compacted c else c

-- the line of the separators, which the third format leaves out
abbrev pub apart_lines : Certificate → List Line
apart_lines c =
    if format_of c == 3 then []
    else record { name = codes "apart"; words = map decimal c.apart } ∷ []

abbrev pub lines : Certificate → List Line
lines c =
    record { name = codes "mqc"; words = decimal (format_of c) ∷ [] }
    ∷ record { name = codes "code"; words = code_text c.code ∷ [] }
    ∷ record { name = codes "order"; words = decimal c.order ∷ [] }
    ∷ record { name = codes "start"; words = decimal c.start ∷ [] }
    ∷ record { name = codes "period"; words = decimal c.period ∷ [] }
    ∷ record { name = codes "phi"; words = map decimal c.phi }
    ∷ record { name = codes "portion"; words = map decimal c.portion }
    ∷ record { name = codes "words"; words = map key_word c.words }
    ∷ (map row_line (said c).rows
    ++ (apart_lines c ++ record { name = codes "end"; words = [] } ∷ []))

-- A text can say it: its numbers are in their ranges, and in the third format what it leaves out
-- follows, and it isn't too long.
pub record IsWritable (c : Certificate) : Type 0 where
  pub in_ranges : InRanges c
  pub follows : format_of c ≡ 3 → Follows c
  pub short : format_of c ≡ 3 → length (text (lines c)) ≤ LONGEST_TEXT

-- the bytes b are the text of the certificate c, which a text can say
pub record Spells (b : List ℕ) (c : Certificate) : Type 0 where
  pub writable : IsWritable c
  pub bytes : b ≡ text (lines c)
