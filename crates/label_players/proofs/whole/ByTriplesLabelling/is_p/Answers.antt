use Rattle.std.proofs.Common.{sym, ◌∙◌}
use Rattle.label_players.proofs.whole.ByTriplesLabelling.is_p.Goals as goal

pub returns : goal.returns
returns g c = λ X p few.
    let is = c.is_in_portion.ensures _ p.1 in
    let known = c.text.ensures.solved.predicts X p.0 in
    (λ t. known.1 (sym is ∙ t), λ h. is ∙ known.0 h)
