-- The lines read one after another are the certificate.
use Rattle.std.proofs.Common.{◌≡◌, ◌≢◌, ◌==◌, ◌≤◌, ℕ, ◌+◌, ◌-◌, ◌*◌, ◌/◌, List, length, nat_le, if◌then◌else◌, Option, Some, None, refl, ap, ◌∙◌, arith, codes}
use Rattle.std.proofs.lemmas.Bool.{le-leb, eq-eqb, ne_eqb}
use Rattle.misere_theory.specs.Certificates.{Certificate, format_of}
use Rattle.certificate_text.specs.declared.TheConstants.{LONGEST_TEXT}
use Rattle.certificate_text.specs.Reading.{◌>>=◌, number_at, fixed_at, line_at, rows_at, lists_at, table_at, first_rows_at, certificate_at}
use Rattle.certificate.specs.Fields.{certificate_of, fields_of}

pub table_is_read : (c : Certificate) (bytes rows apart b1 b2 b3 : List ℕ)
    → rows_at c.order c.order bytes ≡ Some (rows, b1)
    → line_at (codes "apart") (number_at c.order) (c.order * (c.order - 1) / 2) b1
    ≡ Some (apart, b2)
    → fixed_at (codes "end\n") b2 ≡ Some b3
    → table_at c bytes ≡ Some (certificate_of (fields_of c rows apart), b3)
unfolding table_at
table_is_read c bytes rows apart b1 b2 b3 e1 e2 e3 = rw (e1, e2, e3) refl

abbrev if_short : List ℕ → Option (Certificate × List ℕ) → Option (Certificate × List ℕ)
if_short bytes read =
    read >>= λ made. if nat_le (length bytes) (LONGEST_TEXT + length made.1) then Some made else None

module _ (bytes : List ℕ) (c : Certificate) (b1 : List ℕ)
    (lists : lists_at bytes ≡ Some (c, b1)) where
  by_format : certificate_at bytes
      ≡ (if format_of c == 3 then if_short bytes (first_rows_at c b1) else table_at c b1)
  unfolding certificate_at
  by_format = rw lists refl

  pub by_table : format_of c ≢ 3 → certificate_at bytes ≡ table_at c b1
  by_table other =
      by_format
      ∙ ap (λ b. if b then if_short bytes (first_rows_at c b1) else table_at c b1)
      (ne_eqb (format_of c) 3 other)

  pub by_first_rows : (d : Certificate) (b2 : List ℕ) → format_of c ≡ 3
      → first_rows_at c b1 ≡ Some (d, b2) → length bytes - length b2 ≤ LONGEST_TEXT
      → certificate_at bytes ≡ Some (d, b2)
  by_first_rows d b2 third made short =
      by_format
      ∙ ap (λ b. if b then if_short bytes (first_rows_at c b1) else table_at c b1)
      (eq-eqb (format_of c) 3 third)
      ∙ ap (if_short bytes) made
      ∙ ap (λ b. if b then Some (d, b2) else None)
      (le-leb (length bytes) (LONGEST_TEXT + length b2) (omega arith))
