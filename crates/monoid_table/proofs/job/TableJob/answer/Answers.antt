use Rattle.std.proofs.Common.{ap, sym, ◌∙◌, subst}
use Rattle.misere_theory.specs.Quotients.{LawFails}
use Rattle.monoid_table.specs.Grids.{entry, IsTable}
use Rattle.monoid_table.specs.Turns.{triples}
use Rattle.monoid_table.proofs.Checked.{looked-at-all, looked-at-failure}
use Rattle.monoid_table.proofs.job.TableJob.answer.Goals as goal

pub returns-clause-table : goal.returns-clause-table
returns-clause-table g c = λ e.
    subst (λ s. IsTable s.grid.order s.grid.entries) c.self.view_is
    (looked-at-all _ _ _ _ c.all.result c.self.invariant.looked c.if-self.false
    (c.all.ensures ∙ ap (λ s. triples s.grid.order) (sym c.self.view_is)) (cc))

pub returns-then-self-clause-law : goal.returns-then-self-clause-law
returns-then-self-clause-law g c =
    subst (λ s. LawFails s.grid.order (entry s.grid.order s.grid.entries)) c.self.view_is
    (looked-at-failure _ _ _ _ c.self.invariant.looked c.if-self.true)
