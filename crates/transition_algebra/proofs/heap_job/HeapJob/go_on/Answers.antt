use Rattle.std.proofs.Common.{◌≡◌, ◌+◌, ◌<◌, ◌≤◌, ◌∙◌, sym, subst, ap, inl, inr, arith}
use Rattle.transition_algebra.specs.Heaps.{bound_of}
use Rattle.transition_algebra.specs.Work.{heap_cost, opening, turns}
use Rattle.transition_algebra.proofs.Results.{of_ok, of_err}
use Rattle.transition_algebra.proofs.heap_job.HeapJob.go_on.Goals as goal

pub returns-clause-going : goal.returns-clause-going
returns-clause-going g c =
    subst (λ v. v.spent < heap_cost v.code v.phi
    → c.advance-tried.new.self.spent < heap_cost v.code v.phi) c.self.view_is
    (c.advance-tried.ensures.going (let some = c.self.invariant.2.some in omega arith))

pub returns-clause-taken : goal.returns-clause-taken
returns-clause-taken g c = λ fine.
    let j = c.self.inside in
    let t = c.advance-tried.ensures in
    elim (of_ok c.advance-tried.result t.taken (sym c.is_err-self-inside.ensures.value ∙ fine)) [
      | inl all ↦ inl (all ∙ ap (λ v. v.spent + c.args.most) c.self.view_is)
      | inr last ↦
          let is = c.self.invariant.2.bound_is in
          inr
          (subst (λ h. bound_of j.code j.phi ≤ h) (ap (λ s. s.heap) t.goes_on.trial.reached)
          (omega arith))
    ]

pub returns-clause-last : goal.returns-clause-last
returns-clause-last g c =
    let j = c.self.inside in
    subst (λ v. bound_of v.code v.phi
    ≤ (turns v.code v.table v.phi v.spent (opening v.code v.phi)).heap
    → c.advance-tried.new.self.spent ≡ v.spent) c.self.view_is
    (λ late. ap (λ t. t.spent)
    (c.advance-tried.ensures.still
    (let h = subst (λ s. bound_of j.code j.phi ≤ s.heap) (sym c.self.invariant.2.reached) late in
    let is = c.self.invariant.2.bound_is in
    let some = c.self.invariant.2.some in
    omega arith)))

pub returns-clause-short : goal.returns-clause-short
returns-clause-short g c = λ failed. λ _.
    let j = c.self.inside in
    let t = c.advance-tried.ensures in
    let e = of_err c.advance-tried.result t.err (sym c.is_err-self-inside.ensures.value ∙ failed) in (
      subst (λ v. c.advance-tried.new.self.spent < v.spent + c.args.most) c.self.view_is e.0,
      subst (λ h. h < bound_of j.code j.phi) (ap (λ s. s.heap) t.goes_on.trial.reached)
          (let heap = e.2 in
          let is = c.self.invariant.2.bound_is in
          let some = c.self.invariant.2.some in
          omega arith),
    )
