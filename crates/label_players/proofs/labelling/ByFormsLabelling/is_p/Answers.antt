use Rattle.std.proofs.Common.{ap, ◌∙◌}
use Rattle.presented_claims.specs.Claims.{in_portion}
use Rattle.label_players.proofs.Labels.{p-label}
use Rattle.label_players.proofs.labelling.ByFormsLabelling.is_p.Goals as goal

pub returns : goal.returns
returns g c = λ X l short.
    p-label c.args.self.now.quotient.now c.said.ensures.right X c.args.x c.in_portion.result l short
    (c.in_portion.ensures ∙ ap (λ p. in_portion p c.args.x) c.said.ensures.value)
