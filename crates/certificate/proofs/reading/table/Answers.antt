use Rattle.std.proofs.Common.{◌≡◌, ◌≤◌, ◌<◌, ◌^◌, ◌-◌, ◌*◌, ◌/◌, Some, codes, sym, subst, arith}
use Rattle.misere_theory.specs.Certificates.{Certificate}
use Rattle.certificate_text.specs.Reading.{rows_at, line_at, number_at}
use Rattle.certificate_text.specs.Spelling.{IsWritable}
use Rattle.certificate.specs.Fields.{IsWhole, certificate_of, fields_of}
use Rattle.certificate.proofs.Assembled.{table_is_read}
use Rattle.certificate.proofs.Rows.{pretending}
use Rattle.certificate.proofs.reading.table.Given.{Over}
use Rattle.certificate.proofs.reading.table.Goals as goal
use Rattle.certificate.proofs.reading.table.Goals.{In_ok-fixed}

rows : (g : Over) (c : goal.In_ok-fixed g)
    → rows_at c.args.lists.order c.args.lists.order c.args.reader.now
    ≡ Some (c.in_ok-rows.rows.items, c.rows.new.reader)
rows g c =
    subst (λ (l : Certificate). rows_at l.order l.order c.args.reader.now
    ≡ Some (c.in_ok-rows.rows.items, c.rows.new.reader)) c.lists.view_is c.in_ok-rows.ensures

writable : (g : Over) (c : goal.In_ok-fixed g) → IsWritable
    (certificate_of (fields_of c.args.lists c.in_ok-rows.rows.items c.in_ok-apart.apart.items))
writable g c =
    c.requires.writable _ c.fixed.new.self (table_is_read c.args.lists _ _ _ _ _ _ (rows g c)
    (subst
    (λ (l : Certificate). line_at (codes "apart") (number_at l.order) (l.order * (l.order - 1) / 2)
    c.rows.new.reader ≡ Some (c.in_ok-apart.apart.items, c.line.new.reader))
    c.lists.view_is c.in_ok-apart.ensures) c.in_ok-fixed.ensures)

pub with_table-requires : goal.with_table-requires
with_table-requires g c =
    pretending _ (writable g (goal.at.with_table-requires g c).In_ok-fixed).in_ranges

pub from_fields-requires : goal.from_fields-requires
from_fields-requires g c =
    let here = (goal.at.from_fields-requires g c).In_ok-fixed in
    let order = c.args.lists.order in
    let low : 0 < order = omega (arith, c.requires.order.0) in
    let small : order ≤ 2 ^ 16 = omega (arith, c.requires.order.1) in
    subst IsWhole (sym c.with_table.ensures)
    (record {
      writable = writable g here;
      rows_long = c.rows_lie_flat.ensures.count order order _ _ _ low small (rows g here);
      rows_joined = c.rows_lie_flat.ensures.whole order order _ _ _ low small (rows g here);
    })
