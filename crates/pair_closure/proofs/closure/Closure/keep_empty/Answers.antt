use Rattle.std.proofs.Common.{◌≡◌, ◌+◌, ◌∙◌, ap, sym, subst, arith, rules, length, refl}
use Rattle.transition_algebra.specs.Pairs.{one}
use Rattle.pair_closure.specs.Turns.{KeepsEmpty, members_with, held_with}
use Rattle.pair_closure.specs.ClosureViews.{ClosureView, State, closure_view, moved}
use Rattle.pair_closure.proofs.Kept.{kept}
use Rattle.pair_closure.proofs.Runs.{spent_fits}
use Rattle.pair_closure.proofs.Turned.{empty_keeps, empty_next, empty_turned}
use Rattle.pair_closure.proofs.closure.Closure.keep_empty.Goals as goal

pub returns-in_err-add-clause-keeps : goal.returns-in_err-add-clause-keeps
returns-in_err-add-clause-keeps g c = λ _. empty_keeps c.args.self.now.state c.requires

pub overflow_add-self : goal.overflow_add-self
overflow_add-self g c = let fits = spent_fits _ c.self.invariant.0 in omega arith

pub invariant_of-self-2 : goal.invariant_of-self-2
invariant_of-self-2 g c =
    let members : c.add.new.members ≡ members_with c.self.inside.members one 0 0 = search rules in
    let held : c.hold.new.held.items ≡ held_with c.self.inside.held.items one 0
    (length c.self.inside.heaps.items) = search rules in
    let next = empty_next _ _ _ _ c.self.invariant.0
    (subst (λ z. KeepsEmpty z.state) (sym c.self.view_is) c.requires) members held in
    (next.0, next.1, c.self.invariant.2, c.self.invariant.3)

pub invariant_of-self : goal.invariant_of-self
invariant_of-self g c =
    let j = c.self.inside in
    let i = c.self.invariant in
    let same =
    kept j.table j.heaps.items j.limit j.members c.add.new.members j.held.items c.add.new.held.items j.generators.items j.generators.items j.next
    j.spent j.from j.failed c.in_err-add.ensures.err c.in_err-add.ensures.held refl (i.0, i.1) in
    (same.0, same.1, i.2, i.3)

pub returns-clause-ok : goal.returns-clause-ok
returns-clause-ok g c =
    let members : c.add.new.members ≡ members_with c.self.inside.members one 0 0 = search rules in
    let held : c.hold.new.held.items ≡ held_with c.self.inside.held.items one 0
    (length c.self.inside.heaps.items) = search rules in
    let j = c.self.inside in
    let of_state : State → ClosureView = λ t. record { state = t; spent = j.spent + 1; failed = j.failed } in
    ap of_state
    (empty_turned (closure_view j.table j.heaps.items j.limit j.members j.held.items j.generators.items j.next j.spent j.failed)
    _ _ (subst (λ z. KeepsEmpty z.state) (sym c.self.view_is) c.requires) members held)
    ∙ ap moved c.self.view_is
