use Rattle.std.proofs.Common.{◌≡◌, ◌+◌, ◌-◌, ◌≤◌, ◌<◌, true, false, not, inl, inr, ap, sym, ◌∙◌, subst, refl, arith}
use native.Mathlib.Decide.{dec_lt}
use Rattle.monoid_table.specs.Turns.{is_over, turns, triples, triple_holds}
use Rattle.monoid_table.proofs.TurnLaws.{passing-on, turns-none, turn-ends, some-left, state}
use Rattle.monoid_table.proofs.job.TableJob.go_on.Goals as goal
use Rattle.monoid_table.proofs.job.TableJob.go_on.Goals.{then-run, else-run}

pub returns-then-most-eq0-clause-state : goal.returns-then-most-eq0-clause-state
returns-then-most-eq0-clause-state g c = sym (turns-none 0 c.args.self.now refl)

pub returns-clause-state : goal.returns-clause-state
returns-clause-state g c =
    let s =
    state (record { order = c.self.inside.order; entries = c.self.inside.rows.items })
    c.self.inside.spent c.self.inside.refused in
    let over : is_over s ≡ false = ap is_over c.self.view_is ∙ c.requires in
    let rows = sym c.deref-2.ensures.value in
    let run = c.next_run-run in
    let w = run.ensures.within in
    let few : c.if-run.passed ≤ run.result.units =
    elim c.if-run.branch [
      | then-run w ↦ (let e = w.passed-is in omega arith)
      | else-run w ↦
          (let e = w.passed-is in omega arith)
    ] in
    let all = c.all.ensures ∙ ap (λ v. triples v.grid.order) (sym c.self.view_is) in
    (passing-on c.if-run.passed s over (omega arith) (λ i low high.
    ap (λ r. triple_holds c.self.inside.order r i) rows
    ∙ elim c.if-run.branch [
      | then-run w ↦ (let e = w.passed-is in run.ensures.passed i low (omega arith))
      | else-run w ↦
          (let e = w.passed-is in
          elim (dec_lt (i + 1) (c.self.inside.spent + run.result.units)) [
            | yes b ↦ run.ensures.passed i low b
            | no f ↦ (let d : c.self.inside.spent + run.result.units - 1 ≡ i = omega (arith, f) in
                subst (λ k. triple_holds c.self.inside.order c.deref-2.result.now k ≡ true) d
                (run.ensures.last ∙ ap not w.if-run.false))
          ])
    ])).0 ∙ ap (turns c.if-run.passed) c.self.view_is

pub returns-then-most-eq0-clause-some : goal.returns-then-most-eq0-clause-some
returns-then-most-eq0-clause-some g c = λ _.
    let s =
    state (record { order = c.self.inside.order; entries = c.self.inside.rows.items })
    c.self.inside.spent c.self.inside.refused in
    let over : is_over s ≡ false = ap is_over c.self.view_is ∙ c.requires in
    let all : c.all.result ≡ triples c.self.inside.order =
    c.all.ensures ∙ ap (λ v. triples v.grid.order) (sym c.self.view_is) in
    let low : c.self.inside.spent < triples c.self.inside.order =
    some-left s over c.self.invariant.looked.within in
    elim (dec_lt 0 c.args.units) [
      | yes l ↦ inr
          (ap (λ t. is_over (turns 1 t)) (sym c.self.view_is)
          ∙ turn-ends s over (inr (omega (arith, l))))
      | no f ↦ inl (omega (arith, f))
    ]

pub returns-clause-some : goal.returns-clause-some
returns-clause-some g c = λ e.
    let s =
    state (record { order = c.self.inside.order; entries = c.self.inside.rows.items })
    c.self.inside.spent c.self.inside.refused in
    let over : is_over s ≡ false = ap is_over c.self.view_is ∙ c.requires in
    let rows = sym c.deref-2.ensures.value in
    let run = c.next_run-run in
    let within = run.ensures.within in
    elim c.if-run.branch [
      | then-run w ↦
          let p = w.passed-is in
          let one : c.self.inside.spent + run.result.units - 1 ≡ c.self.inside.spent = omega arith in
          inr
          (ap (λ t. is_over (turns 1 t)) (sym c.self.view_is)
          ∙ turn-ends s over
          (inl
          (ap (λ r. triple_holds c.self.inside.order r c.self.inside.spent) rows
          ∙ ap (triple_holds c.self.inside.order c.deref-2.result.now) (sym one)
          ∙ run.ensures.last ∙ ap not w.if-run.true)))
      | else-run w ↦ let p = w.passed-is in absurd (omega arith)
    ]
