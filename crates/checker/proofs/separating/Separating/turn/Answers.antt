use Rattle.std.proofs.Common.{[], sym, ap, ◌∙◌}
use Rattle.check_machine.specs.Views.{SeparatingView}
use Rattle.check_machine.specs.Turns.Phase.{Heaps}
use Rattle.checker.proofs.ComeLemmas.{turn_alone, turn_still}
use Rattle.checker.proofs.separating.Separating.turn.Goals as goal

pub returns-in-Goes : goal.returns-in-Goes
returns-in-Goes g c =
    let h = c.in-Goes.ensures in λ limit. turn_alone [] limit _ _ _ (h.runs [] limit) h.leads

pub returns-in-Wrong : goal.returns-in-Wrong
returns-in-Wrong g c =
    let h = c.in-Wrong.ensures in
    λ limit. sym (turn_still [] limit _ _ _ _ (h.runs [] limit) h.leads.0 (h.leads.1 limit))

pub returns-in-Over : goal.returns-in-Over
returns-in-Over g c =
    let h = c.in-Over.ensures in
    λ limit. c.new.ensures
    ∙ ap (λ (s : SeparatingView). Heaps (record { certificate = s.certificate; spent = 0 })) c.self-in-Over.view_is
    ∙ sym (turn_still [] limit _ _ _ _ (h.runs [] limit) h.leads.0 (h.leads.2 limit))
