use Rattle.std.proofs.Common.{◌∙◌}
use Rattle.descriptions.proofs.NumberTexts.{table-put}
use Rattle.descriptions.proofs.multiplication.table_text.Goals as goal

pub returns : goal.returns
returns c =
    c.in_ok-text.ensures
    ∙ table-put c.args.certified.now c.cert-cert.result.now c.in_ok-table.table c.as_str.result.now
    c.as_str-2.result.now c.as_str-3.result.now c.start.result c.period.result c.cert-cert.ensures.same
    c.in_ok-table.ensures (c.as_str.ensures.value ∙ c.in_ok-first.ensures)
    (c.as_str-2.ensures.value ∙ c.in_ok-lists.ensures) (c.as_str-3.ensures.value ∙ c.in_ok-tail.ensures)
    c.start.ensures.value c.period.ensures.value
