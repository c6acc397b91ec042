-- The fields of a certificate as they lie in memory, and the certificate that they are. This
-- project's own.
use Rattle.std.specs.Prelude.{◌≡◌, ℕ, ◌*◌, true, List, length}
use Rattle.std.specs.List.{concat}
use Rattle.misere_theory.specs.Certificates.{Certificate}
use Rattle.compact_certificates.specs.Rows.{firsts_of}
use Rattle.compact_certificates.specs.Compact.{expanded, is_expandable}
use Rattle.certificate_text.specs.Spelling.{IsWritable}
use Rattle.certificate_text.specs.Reading.{rows_of}
use Rattle.monoid_table.specs.Grids.{Grid}
use Rattle.monoid_table.specs.Pretending.{Pretending}

pub record Fields : Type 0 where
  pub code : List ℕ
  pub order : ℕ
  pub phi : Pretending
  pub portion : List ℕ
  pub words : List (ℕ × ℕ)
  pub rows : List ℕ
  pub apart : List ℕ

-- the rows are cut from the list in which they lie
abbrev pub certificate_of : Fields → Certificate
certificate_of p = record {
  code = p.code;
  order = p.order;
  start = p.phi.start;
  period = p.phi.period;
  phi = p.phi.entries;
  portion = p.portion;
  words = p.words;
  rows = rows_of p.order p.order p.rows;
  apart = p.apart;
}

-- their certificate, of which they have the first rows alone
abbrev pub compact_of : Fields → Certificate
compact_of p =
    record (certificate_of p) { rows = rows_of p.order (firsts_of p.words) p.rows }

-- a text can say them, and there is nothing behind the rows
pub record IsWhole (p : Fields) : Type 0 where
  pub writable : IsWritable (certificate_of p)
  pub rows_long : length p.rows ≡ p.order * p.order
  pub rows_joined : concat (rows_of p.order p.order p.rows) ≡ p.rows

-- a text can say what follows from their first rows, and there is nothing behind these
pub record HasFirstRows (p : Fields) : Type 0 where
  pub writable : IsWritable (expanded (compact_of p))
  pub expandable : is_expandable (compact_of p) ≡ true
  pub rows_long : length p.rows ≡ firsts_of p.words * p.order
  pub rows_joined : concat (compact_of p).rows ≡ p.rows

-- the pretending function of a certificate
abbrev pub pretending_of : Certificate → Pretending
pretending_of c = record { start = c.start; period = c.period; entries = c.phi }

-- the table of a certificate, its rows one behind the other
abbrev pub grid_of : Certificate → Grid
grid_of c = record { order = c.order; entries = concat c.rows }

-- the fields of a certificate, with these rows and separators
abbrev pub fields_of : Certificate → List ℕ → List ℕ → Fields
fields_of c rows apart = record {
  code = c.code;
  order = c.order;
  phi = pretending_of c;
  portion = c.portion;
  words = c.words;
  rows = rows;
  apart = apart;
}
