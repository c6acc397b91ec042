use Rattle.std.proofs.Common.{◌-◌, ◌∙◌, ap, arith}
use Rattle.std.specs.FinSet as set
use Rattle.normal_forms.proofs.table.RuleTable.first_of.Goals as goal

pub returns-else-first-count : goal.returns-else-first-count
returns-else-first-count g c = λ none x lt d less.
    c.useless-useless.ensures x
    (c.first_apart-first.ensures.alike x
    (omega (arith, c.if-first-count.false, c.first_apart-first.ensures.within, c.min-count.ensures, lt, less))
    ∙ ap (λ t. set.contains t.all x) c.self.view_is ∙ c.requires.table.all x lt) d less
