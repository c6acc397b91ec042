use Rattle.std.proofs.Common.{sym, ◌∙◌}
use Rattle.std.proofs.lemmas.Bool.{false≢true}
use Rattle.label_players.proofs.Labels.{alike, same-form}
use Rattle.label_players.proofs.telling.presented_apart.Goals as goal

pub returns-then-are_same : goal.returns-then-are_same
returns-then-are_same g c =
    alike c.args.quotient.now c.said.ensures.right c.args.first.now c.args.second.now c.presented_form-x.result
    c.presented_form-y.result c.requires.first c.requires.second c.presented_form-x.ensures c.presented_form-y.ensures
    (c.are_same.ensures.0 c.if-are_same.true)

pub returns-in-None : goal.returns-in-None
returns-in-None g c = λ h.
    false≢true (sym c.if-are_same.false
    ∙ c.are_same.ensures.1
    (same-form c.args.quotient.now c.said.ensures.right c.args.first.now c.args.second.now c.presented_form-x.result
    c.presented_form-y.result c.requires.first c.requires.second c.presented_form-x.ensures c.presented_form-y.ensures
    h))
