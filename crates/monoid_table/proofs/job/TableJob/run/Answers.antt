use Rattle.std.proofs.Common.{◌≡◌, ◌+◌, ◌-◌, ap, sym, ◌∙◌, false}
use Rattle.monoid_table.specs.Turns.{turns, is_over, triple_holds}
use Rattle.monoid_table.proofs.TurnLaws.{ran, state}
use Rattle.monoid_table.proofs.job.TableJob.run.Goals as goal

pub returns-clause-state : goal.returns-clause-state
returns-clause-state g c =
    let s =
    state (record { order = c.self.inside.order; entries = c.self.inside.rows.items })
    c.self.inside.spent c.self.inside.refused in
    let over : is_over s ≡ false = ap is_over c.self.view_is ∙ c.requires.going in
    ran c.next_run-run.result.units s c.next_run-run.result.broken over
    c.next_run-run.ensures.within.0 c.next_run-run.ensures.within.2
    (λ i low high. ap (λ rows. triple_holds c.self.inside.order rows i)
    (sym c.deref-2.ensures.value) ∙ c.next_run-run.ensures.passed i low high)
    (ap (λ rows. triple_holds c.self.inside.order rows
    (c.self.inside.spent + c.next_run-run.result.units - 1)) (sym c.deref-2.ensures.value)
    ∙ c.next_run-run.ensures.last)
    ∙ ap (turns c.next_run-run.result.units) c.self.view_is
