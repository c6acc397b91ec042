use Rattle.std.proofs.Common.{◌∙◌, ◌++◌, ℕ, List, ap, codes, decimal}
use Rattle.description_commands.proofs.Joins.{joined}
use Rattle.description_commands.proofs.texts.idempotents_text.Goals as goal

pub returns : goal.returns
returns c =
    c.in_ok-text.ensures.ok
    ∙ ap (λ (t : List ℕ). codes "not isomorphic\nidempotents " ++ t)
    (joined (decimal c.args.one) (codes " and ") (decimal c.args.other) (codes "\n"))
