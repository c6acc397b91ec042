use Rattle.std.proofs.Common.{◌≡◌, ◌-◌}
use Rattle.certificate_text.specs.Reading.{with_front, rows_at}
use Rattle.certificate_lines.proofs.lines.rows.Given as goal

abbrev pub invariant-loop : goal.invariant-loop
invariant-loop g l =
    with_front l.found.items (rows_at l.order (l.count - l.counter) l.reader)
    ≡ rows_at l.order l.count l.initial.reader
