use Rattle.std.proofs.Common.{◌≡◌, ◌≤◌, ◌+◌, ap, ◌∙◌, sym, subst, arith, false, refl, rules}
use Rattle.misere_theory.specs.Quotients.{LawFails}
use Rattle.monoid_table.specs.Grids.{entry, Grid, IsTable, IsShaped}
use Rattle.monoid_table.specs.Turns.{turns, triples, is_over}
use Rattle.monoid_table.proofs.TurnLaws.{state, turns-end, turns-grid, over-answers}
use Rattle.monoid_table.proofs.Checked.{triples-most, failure-refutes}
use Rattle.monoid_table.proofs.table.Table.new.Given.{Over}
use Rattle.monoid_table.proofs.table.Table.new.Goals as goal

pub finish-requires : goal.finish-requires
finish-requires g c =
    let rows : Grid = record { order = c.args.order; entries = c.args.rows.items } in
    let shaped : IsShaped c.args.order c.args.rows.items = c.in_ok-job.ensures.ok.0 refl in
    let room : triples c.args.order ≤ 0 + 18446744073709551615 =
    omega (arith, triples-most c.args.order shaped.small) in
    let none : 0 ≤ triples c.args.order = omega arith in
    let reached : c.work.new.self ≡ turns 18446744073709551615 (state rows 0 false) =
    c.work.ensures.state ∙ ap (turns 18446744073709551615) c.in_ok-job.ensures.given in
    over-answers c.work.new.self c.in_ok-work.field-0
    (ap is_over reached ∙ turns-end 18446744073709551615 rows 0 none room)
    (sym c.work.ensures.answer ∙ c.in_ok-work.was)

pub returns-clause-given : goal.returns-clause-given
returns-clause-given g c =
    c.finish.ensures.value ∙ ap (λ s. s.grid) c.work.ensures.state
    ∙ turns-grid 18446744073709551615 c.in_ok-job.job ∙ ap (λ s. s.grid) c.in_ok-job.ensures.given

table : (g : Over) (c : goal.After-finish g) → IsTable c.args.order c.args.rows.items
table g c = subst (λ t. IsTable t.order t.entries) (returns-clause-given g c) c.finish.ensures.table

pub returns-clause-ok : goal.returns-clause-ok
returns-clause-ok g c = (λ _. table g c, λ _. refl)

pub returns-clause-law : goal.returns-clause-law
returns-clause-law g c =
    (λ e. absurd (cc), λ both. absurd (failure-refutes _ _ both.1 (table g c).monoid))

pub returns-in_err-work-clause-law : goal.returns-in_err-work-clause-law
returns-in_err-work-clause-law g c = (
  λ _. (
    c.in_ok-job.ensures.ok.0 refl,
    subst (λ job. LawFails job.grid.order (entry job.grid.order job.grid.entries))
        c.in_ok-job.ensures.given c.in_err-work.ensures.law,
  ),
  λ _. search rules,
)
