use Rattle.std.proofs.Common.{◌≡◌, ◌+◌, ◌-◌, ap, ◌∙◌, sym, subst, arith}
use Rattle.std.specs.Prelude.{OnErr}
use Rattle.misere_theory.specs.Quotients.{LawFails}
use Rattle.monoid_table.specs.Grids.{entry, IsTable}
use Rattle.monoid_table.specs.Turns.{turns}
use Rattle.monoid_table.proofs.TurnLaws.{turns-split, turns-over, turns-none, turns-grid}
use Rattle.monoid_table.proofs.job.TableJob.work.Given.{Over}
use Rattle.monoid_table.proofs.job.TableJob.work.Goals as goal
use Rattle.monoid_table.proofs.job.TableJob.work.Goals.{then-loop-left-test+else-not-is_over, else-loop-left-test}

pub loop-left-preserved : goal.loop-left-preserved
loop-left-preserved g c =
    let all : c.run-left.result + (c.loop-left.left - c.run-left.result) ≡ c.loop-left.left =
    omega arith in
    ap (turns (c.loop-left.left - c.run-left.result)) c.run-left.ensures.state
    ∙ turns-split c.run-left.result (c.loop-left.left - c.run-left.result) c.loop-left.left
    c.loop-left.self all ∙ c.loop-left.invariant

-- where the loop ends, all units were spent
reached : (g : Over) (c : goal.After-answer g)
    → c.loop-left.self ≡ turns c.args.units c.args.self.now
reached g c = sym (elim c.loop-left-test.branch [
  | then-loop-left-test+else-not-is_over w ↦ turns-over c.loop-left.left c.loop-left.self
      (sym w.is_over.ensures ∙ w.if-not-is_over.false)
  | else-loop-left-test w ↦ turns-none c.loop-left.left c.loop-left.self (omega arith)
]) ∙ c.loop-left.invariant

same-rows : (g : Over) (c : goal.After-answer g) → c.loop-left.self.grid ≡ c.args.self.now.grid
same-rows g c = ap (λ s. s.grid) (reached g c) ∙ turns-grid c.args.units c.args.self.now

pub returns-clause-state : goal.returns-clause-state
returns-clause-state g c = reached g c

pub returns-clause-law : goal.returns-clause-law
returns-clause-law g c =
    subst (λ rows. OnErr c.answer.result (LawFails rows.order (entry rows.order rows.entries)))
    (same-rows g c) c.answer.ensures.law

pub returns-clause-table : goal.returns-clause-table
returns-clause-table g c =
    λ e. subst (λ rows. IsTable rows.order rows.entries) (same-rows g c) (c.answer.ensures.table e)
