use Rattle.std.proofs.Common.{◌+◌, ◌∙◌, sym, ap, subst, arith, rules, refl}
use Rattle.pair_closure.specs.Turns.{State, KeepsNext, TriesHeap}
use Rattle.pair_closure.specs.ClosureViews.{moved}
use Rattle.pair_closure.proofs.Machine.{of_run, members_tell}
use Rattle.pair_closure.proofs.Fit.{members_fit}
use Rattle.pair_closure.proofs.Kept.{kept}
use Rattle.pair_closure.proofs.Runs.{spent_fits}
use Rattle.pair_closure.proofs.Turned.{heap_keeps, heap_next, heap_turned}
use Rattle.pair_closure.proofs.closure.Closure.try_heap.Goals as goal

pub settle_heap-requires : goal.settle_heap-requires
settle_heap-requires g c =
    let few = c.self.invariant.3 in (
      members_fit g.row.LANES g.row.A g.A.Allocator g.met.A.SmallAllocator.small,
      (omega arith, members_tell _ (of_run _ c.self.invariant.0) _),
    )

pub returns-in_err-anew-clause-keeps : goal.returns-in_err-anew-clause-keeps
returns-in_err-anew-clause-keeps g c = λ _.
    subst (λ z. KeepsNext z.state) c.self.view_is
    (heap_keeps _ c.index-pair.result.now
    (subst (λ z. TriesHeap z.state) (sym c.self.view_is) c.requires) c.index-pair.ensures
    (c.in_err-anew.ensures.keeps refl))

pub overflow_add-self : goal.overflow_add-self
overflow_add-self g c = let fits = spent_fits _ c.self.invariant.0 in omega arith

pub invariant_of-self-2 : goal.invariant_of-self-2
invariant_of-self-2 g c =
    let next =
    heap_next _ _ _ _ _ _ c.in_ok-anew.anew _ c.self.invariant.0 (record {
      turns = subst (λ z. TriesHeap z.state) (sym c.self.view_is) c.requires;
      heap = c.index-pair.ensures;
      number = refl;
      members_are = c.in_ok-anew.ensures.members;
      held_are = c.in_ok-anew.ensures.held;
      generators_are = c.in_ok-anew.ensures.generators;
    }) (λ e. c.in_ok-anew.ensures.kept (search rules)) (search rules) in
    (next.0, next.1, c.self.invariant.2, c.self.invariant.3)

pub returns-clause-ok : goal.returns-clause-ok
returns-clause-ok g c =
    ap (λ (t : State).
    record { state = t; spent = c.self.inside.spent + 1; failed = c.self.inside.failed })
    (heap_turned _ _ _ _ _ c.index-pair.result.now (record {
      turns = subst (λ z. TriesHeap z.state) (sym c.self.view_is) c.requires;
      heap = c.index-pair.ensures;
      number = refl;
      members_are = c.in_ok-anew.ensures.members;
      held_are = c.in_ok-anew.ensures.held;
      generators_are = c.in_ok-anew.ensures.generators;
    }))
    ∙ ap moved c.self.view_is

pub invariant_of-self : goal.invariant_of-self
invariant_of-self g c =
    let j = c.self.inside in
    let i = c.self.invariant in
    let same =
    kept j.table j.heaps.items j.limit j.members c.settle_heap.new.members j.held.items c.settle_heap.new.held.items j.generators.items c.settle_heap.new.generators.items j.next
    j.spent j.from j.failed c.in_err-anew.ensures.err_members c.in_err-anew.ensures.err_held c.in_err-anew.ensures.err_generators (i.0, i.1) in
    (same.0, same.1, i.2, i.3)
