use Rattle.std.proofs.Common.{◌≡◌, ◌-◌}
use Rattle.std.specs.List.{concat}
use Rattle.compact_certificates.specs.Rows.{firsts_of}
use Rattle.certificate.proofs.MadeRows.{rows_made}
use Rattle.certificate.proofs.expanding.all_rows.Given as goal

-- the rows by the keys up to i
abbrev pub invariant-loop-i : goal.invariant-loop-i
invariant-loop-i g l =
    l.rows.items ≡ concat (rows_made l.fields (l.i - firsts_of l.fields.words))
