use Rattle.std.proofs.Common.{sym, ap, ◌∙◌}
use Rattle.verdict_commands.specs.QuotientLines.{endless_line, line_by}
use Rattle.verdict_commands.proofs.Printed.{if-ok}
use Rattle.verdict_commands.proofs.quotients.yes_text.Goals as goal

pub returns-in-Some : goal.returns-in-Some
returns-in-Some c =
    if-ok _ _ c.finite_text.result c.finite_text.ensures
    (λ t e. e ∙ ap (line_by c.args.quotient.now.said) (sym c.in-Some.is ∙ c.order.ensures))

pub returns-in-None : goal.returns-in-None
returns-in-None c =
    if-ok _ _ c.endless_text.result c.endless_text.ensures
    (λ t e. e ∙ ap (endless_line c.args.quotient.now.said) c.relations.ensures
    ∙ ap (line_by c.args.quotient.now.said) (sym c.in-None.is ∙ c.order.ensures))
