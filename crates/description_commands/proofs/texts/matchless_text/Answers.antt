use Rattle.std.proofs.Common.{◌∙◌, ◌++◌, ℕ, List, ap, codes, decimal}
use Rattle.description_commands.proofs.Joins.{joined_twice}
use Rattle.description_commands.proofs.texts.matchless_text.Goals as goal

pub returns : goal.returns
returns c =
    c.in_ok-text.ensures.ok
    ∙ ap (λ (t : List ℕ). codes "not isomorphic\nelement " ++ t)
    (joined_twice (decimal c.args.element) (codes " of the ") c.args.one.now
    (codes " like none of the ") c.args.other.now (codes "\n"))
