-- The text of a table that somebody brings: these lines in this order, each ended by one LF, with
-- single spaces. They are a certificate's lines without the keys and the separators. This project's
-- own.
use Rattle.std.specs.Prelude.{◌≡◌, ℕ, List, [], ◌∷◌, ◌++◌, map, codes}
use Rattle.std.specs.Fmt.{decimal}
use Rattle.octal_code.specs.Text.{code_text}
use Rattle.certificate_text.specs.Spelling.{Line, text, row_line}
use Rattle.certificate_text.specs.Reading.{rows_of}
use Rattle.own_quotients.specs.Tables.{Own, IsOwn}

abbrev pub table_lines : Own → List Line
table_lines o =
    record { name = codes "table"; words = codes "1" ∷ [] }
    ∷ record { name = codes "code"; words = code_text o.code ∷ [] }
    ∷ record { name = codes "order"; words = decimal o.order ∷ [] }
    ∷ record { name = codes "start"; words = decimal o.start ∷ [] }
    ∷ record { name = codes "period"; words = decimal o.period ∷ [] }
    ∷ record { name = codes "heaps"; words = map decimal o.heaps }
    ∷ record { name = codes "portion"; words = map decimal o.portion }
    ∷ (map row_line (rows_of o.order o.order o.rows)
    ++ record { name = codes "end"; words = [] } ∷ [])

-- the bytes are the text of the table, whose numbers are in their ranges
pub record SpellsTable (b : List ℕ) (o : Own) : Type 0 where
  pub in_ranges : IsOwn o
  pub bytes : b ≡ text (table_lines o)
