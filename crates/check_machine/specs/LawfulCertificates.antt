-- A certificate as the checker holds it.
use Rattle.std.specs.Prelude.{ℕ, ◌≤◌, List}
use Rattle.misere_theory.specs.Certificates.{Certificate, InRanges, times_of}
use Rattle.misere_theory.specs.Quotients.{Monoid}
use Rattle.monoid_table.specs.Grids.{Grid}
use Rattle.monoid_table.specs.Turns.{triples}
use Rattle.monoid_table.specs.Pretending.{Pretending}
use Rattle.certificate.specs.Fields.{Fields, certificate_of, IsWhole}

-- the parts of a certificate whose rows are a table's
abbrev pub fields_of : List ℕ → Grid → Pretending → List ℕ → List (ℕ × ℕ) → List ℕ → Fields
fields_of code table phi portion words apart =
    record {
      code = code;
      order = table.order;
      phi = phi;
      portion = portion;
      words = words;
      rows = table.entries;
      apart = apart;
    }

-- the numbers are in their ranges, and the table has the laws
pub record IsLawful (c : Certificate) : Type 0 where
  pub in_ranges : InRanges c
  pub monoid : Monoid c.order (times_of c)

-- the parts are whole, and so many triples of the table were looked at
pub record IsUnderLaws (p : Fields) (spent : ℕ) : Type 0 where
  pub whole : IsWhole p
  pub within : spent ≤ triples p.order

-- the parts are whole, and the table has the laws
pub record IsLawfulCertificate (p : Fields) : Type 0 where
  pub whole : IsWhole p
  pub lawful : IsLawful (certificate_of p)
