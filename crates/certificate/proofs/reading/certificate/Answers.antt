use Rattle.std.proofs.Common.{◌≡◌, ◌≢◌, ◌≤◌, ◌-◌, [], length, Some, sym, subst, ap, ◌∙◌, arith}
use Rattle.misere_theory.specs.Certificates.{Certificate, format_of}
use Rattle.compact_certificates.specs.Compact.{expanded}
use Rattle.certificate_text.specs.declared.TheConstants.{LONGEST_TEXT}
use Rattle.certificate_text.specs.Reading.{certificate_at}
use Rattle.certificate_text.specs.Spelling.{IsWritable}
use Rattle.certificate.specs.Fields.{Fields, HasFirstRows, compact_of, fields_of}
use Rattle.certificate.proofs.Assembled.{by_table, by_first_rows}
use Rattle.certificate.proofs.Rows.{pretending}
use Rattle.certificate.proofs.reading.certificate.Given.{Over}
use Rattle.certificate.proofs.reading.certificate.Goals as goal
use Rattle.certificate.proofs.reading.certificate.Goals.{After-new, After-with_table}

pub table-requires-clause-writable : goal.table-requires-clause-writable
table-requires-clause-writable g c d rest e =
    let other : format_of c.in_ok-lists.lists ≢ 3 =
    λ third. c.if-format-ne3.true (c.format.ensures ∙ third) in
    c.reading_is_spelling.ensures.writable c.args.reader.now d rest
    (by_table c.args.reader.now c.in_ok-lists.lists c.list_lines.new.reader
    c.in_ok-lists.ensures.read other ∙ e)

-- the certificate with all that follows from its first rows is read
made : (g : Over) (c : goal.After-new g) → certificate_at c.args.reader.now
    ≡ Some (
      expanded (compact_of (fields_of c.in_ok-lists.lists c.in_ok-rows.rows.items [])),
      c.first_rows.new.reader,
    )
made g c =
    let third : format_of c.in_ok-lists.lists ≡ 3 = sym c.format.ensures ∙ c.if-format-ne3.false in
    let short : length c.args.reader.now - length c.first_rows.new.reader ≤ LONGEST_TEXT =
    omega (
      arith,
      c.if-length-gt-LONGEST_TEXT.false,
      c.saturating_sub-length.ensures,
      c.left.ensures,
      c.left-before.ensures,
    ) in
    by_first_rows c.args.reader.now c.in_ok-lists.lists c.list_lines.new.reader
    c.in_ok-lists.ensures.read _ c.first_rows.new.reader third c.in_ok-rows.ensures.read short

writable : (g : Over) (c : goal.After-new g)
    → IsWritable (expanded (compact_of (fields_of c.in_ok-lists.lists c.in_ok-rows.rows.items [])))
writable g c =
    c.reading_is_spelling.ensures.writable c.args.reader.now _ c.first_rows.new.reader (made g c)

with_table : (g : Over) (c : goal.After-with_table g)
    → c.with_table.result ≡ fields_of c.in_ok-lists.lists c.in_ok-rows.rows.items []
with_table g c =
    c.with_table.ensures
    ∙ ap (fields_of c.in_ok-lists.lists c.in_ok-rows.rows.items) c.new.ensures.items

pub with_table-requires : goal.with_table-requires
with_table-requires g c = pretending _ (writable g c).in_ranges

pub expanded-requires : goal.expanded-requires
expanded-requires g c =
    subst HasFirstRows (sym (with_table g c))
    (record {
      writable = writable g (goal.at.expanded-requires g c).After-new;
      expandable = c.in_ok-rows.ensures.expandable;
      rows_long = c.in_ok-rows.ensures.long;
      rows_joined = c.in_ok-rows.ensures.flat;
    })

pub returns : goal.returns
returns g c =
    made g (goal.at.returns g c).After-new
    ∙ ap (λ (cert : Certificate). Some (cert, c.first_rows.new.reader))
    (sym (c.in_ok-expanded.ensures
    ∙ ap (λ (f : Fields). expanded (compact_of f))
    (with_table g (goal.at.returns g c).After-with_table)))
