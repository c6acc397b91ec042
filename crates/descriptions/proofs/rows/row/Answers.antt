use Rattle.std.proofs.Common.{◌∙◌, ◌*◌, ◌-◌, ap, arith}
use Rattle.std.proofs.lemmas.Grind.{common_steps}
use Rattle.descriptions.specs.Rows.{cells, row_width}
use Rattle.descriptions.proofs.RowLaws.{array-row, row-ends}
use Rattle.descriptions.proofs.rows.row.Goals as goal

pub cells-requires-clause-within : goal.cells-requires-clause-within
cells-requires-clause-within c =
    let ends = row-ends c.args.certified.now c.cert-cert.result.now c.cert-cert.ensures.same c.args.k
    c.row_width-many.result c.start.result c.period-2.result c.min-to.result
    (c.row_width-many.ensures.value ∙ ap row_width c.period.ensures.value) c.start.ensures.value c.period-2.ensures.value
    c.row_width-many.ensures.some c.requires.within c.min-to.ensures in
    omega (arith, ends.0, ends.1)

pub cells-requires-in-Arrays-clause-within : goal.cells-requires-in-Arrays-clause-within
cells-requires-in-Arrays-clause-within c =
    let ends = row-ends c.args.certified.now c.cert-cert.result.now c.cert-cert.ensures.same c.args.k
    c.row_width-many.result c.start.result c.period-2.result c.min-to.result
    (c.row_width-many.ensures.value ∙ ap row_width c.period.ensures.value) c.start.ensures.value c.period-2.ensures.value
    c.row_width-many.ensures.some c.requires.within c.min-to.ensures in
    omega (arith, ends.0, ends.1)

pub returns-in_ok-text-in-Arrays : goal.returns-in_ok-text-in-Arrays
returns-in_ok-text-in-Arrays c =
    rw (c.in-Arrays.is) (array-row c.args.certified.now c.cert-cert.result.now c.cert-cert.ensures.same c.args.letters
    c.args.words.now c.args.k c.row_width-many.result c.start.result c.period-2.result c.min-to.result c.min.result
    _ _ _ (c.row_width-many.ensures.value ∙ ap row_width c.period.ensures.value) c.start.ensures.value
    c.period-2.ensures.value c.min-to.ensures c.min.ensures c.in_ok-front-in-Arrays.ensures
    (c.in_ok-all-in-Arrays.ensures ∙ ap (λ f. cells f c.args.certified.now c.args.letters c.args.words.now
    (c.args.k * c.row_width-many.result) (c.min-to.result - c.args.k * c.row_width-many.result)) c.in-Arrays.is)
    (grind (arith, common_steps, c.in_ok-text-in-Arrays.ensures.ok)))
