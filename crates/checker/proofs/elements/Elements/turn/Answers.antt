-- No option leads in before the heap and value in hand; the first that does gives a position.
use Rattle.std.proofs.Common.{◌+◌, sym, ap, inl, ◌∙◌, arith}
use Rattle.check_machine.specs.Turns.{elements_turn}
use Rattle.check_machine.specs.Turns.Phase.{Closing}
use Rattle.check_machine.proofs.HeapLaws.{up_to_bound}
use Rattle.check_machine.proofs.UnitLaws.{bound_few}
use Rattle.checker.proofs.Fit.{closing_fits}
use Rattle.checker.proofs.ElementLemmas.{value_below, obeys_at, value_turn, heap_turn, elements_end}
use Rattle.checker.proofs.ElementTurns.{elements_broken, elements_heap, elements_option, elements_over, leads_here, leads_nowhere}
use Rattle.checker.proofs.elements.Elements.turn.Goals as goal

pub breach-requires : goal.breach-requires
breach-requires g c =
    let i = c.self.invariant in
    let s = c.self.inside in
    let r = c.order-order.ensures.lawful.in_ranges in
    let order = c.order-order.ensures.value in
    let option = i.0.value in
    let long = i.0.sets.length_is in (
      omega arith,
      (
        rw c.deref.ensures.value
            (value_below s.certificate r s.pairs.items s.contexts.items _ _ c.index.result.now i.0 i.1
            c.index.ensures),
        (rw c.deref.ensures.value (omega arith), omega arith),
      ),
    )

pub breaks_rule-requires-clause-heap : goal.breaks_rule-requires-clause-heap
breaks_rule-requires-clause-heap g c =
    let s = c.self.inside in
    let l = c.self.invariant.1 in
    let long = c.self.invariant.0.exact.exact.length_is in
    let most = bound_few s.certificate c.order-order.ensures.lawful.in_ranges in
    (up_to_bound s.certificate (s.heap + 1) (omega arith, omega arith), omega arith)

pub returns-in-Some : goal.returns-in-Some
returns-in-Some g c =
    let i = c.self.invariant in
    let s = c.self.inside in
    let r = c.order-order.ensures.lawful.in_ranges in
    let e = c.deref.ensures.value in
    let y = c.in-Some.y in
    let o = c.order-order.ensures.value in
    let b = c.in-Some.ensures.within in
    let broken =
    elements_broken c.args.limit s.certificate s.pairs.items _ _ y (omega arith)
    (leads_here s.certificate r s.pairs.items s.contexts.items _ _ i.0 i.1 c.index.result.now
    c.index.ensures y c.in-Some.ensures.option (rw e at c.in-Some.ensures.heap)
    (rw e at c.in-Some.ensures.left))
    (λ x l. leads_nowhere s.certificate r s.pairs.items s.contexts.items _ _ i.0 i.1
    c.index.result.now c.index.ensures x (omega arith)
    (λ o u. (rw e at c.in-Some.ensures.least) x l u)) in
    let e = ap (elements_turn c.args.limit) (sym c.self.view_is) ∙ broken in
    rw e c.breaks_rule.ensures

pub returns-then-option-order : goal.returns-then-option-order
returns-then-option-order g c =
    let i = c.self.invariant in
    let s = c.self.inside in
    let r = c.order-order.ensures.lawful.in_ranges in
    let o = c.order-order.ensures.value in
    let none = rw (c.deref.ensures.value, o) at c.in_default.ensures.none in
    inl (ap (elements_turn c.args.limit) (sym c.self.view_is)
    ∙ elements_option c.args.limit s.certificate s.pairs.items _ _
    (λ x b. leads_nowhere s.certificate r s.pairs.items s.contexts.items _ _ i.0 i.1
    c.index.result.now c.index.ensures x b (λ u. none u x b)) (omega arith) i.1)

pub invariant_of-result : goal.invariant_of-result
invariant_of-result g c =
    let i = c.self.invariant in
    let s = c.self.inside in
    let r = c.order-order.ensures.lawful.in_ranges in
    let o = c.order-order.ensures.value in
    let obeys =
    obeys_at s.certificate r s.pairs.items s.contexts.items _ _ c.index.result.now i.0 i.1
    c.index.ensures (rw (c.deref.ensures.value, o) at c.in_default.ensures.none) in (
      value_turn s.certificate r s.pairs.items s.contexts.items _ _ i.0 obeys (omega arith),
      i.1,
      i.2,
      i.3,
    )

pub returns-then-heap-len : goal.returns-then-heap-len
returns-then-heap-len g c =
    let i = c.self.invariant in
    let s = c.self.inside in
    let r = c.order-order.ensures.lawful.in_ranges in
    let o = c.order-order.ensures.value in
    let v = i.0.value in
    let n = c.len.ensures in
    let none = rw (c.deref.ensures.value, o) at c.in_default.ensures.none in
    inl (ap (elements_turn c.args.limit) (sym c.self.view_is)
    ∙ elements_heap c.args.limit s.certificate s.pairs.items _ _
    (λ x b. leads_nowhere s.certificate r s.pairs.items s.contexts.items _ _ i.0 i.1
    c.index.result.now c.index.ensures x b (λ u. none u x b)) (omega arith) (omega arith))

pub invariant_of-result-then-heap-len : goal.invariant_of-result-then-heap-len
invariant_of-result-then-heap-len g c =
    let i = c.self.invariant in
    let s = c.self.inside in
    let r = c.order-order.ensures.lawful.in_ranges in
    let o = c.order-order.ensures.value in
    let v = i.0.value in
    let n = c.len.ensures in
    let obeys =
    obeys_at s.certificate r s.pairs.items s.contexts.items _ _ c.index.result.now i.0 i.1
    c.index.ensures (rw (c.deref.ensures.value, o) at c.in_default.ensures.none) in (
      heap_turn s.certificate r s.pairs.items s.contexts.items _ _ i.0 obeys (omega arith) i.1,
      omega arith,
      i.2,
      i.3,
    )

pub returns : goal.returns
returns g c =
    let i = c.self.invariant in
    let s = c.self.inside in
    let r = c.order-order.ensures.lawful.in_ranges in
    let o = c.order-order.ensures.value in
    let v = i.0.value in
    let n = c.len.ensures in
    let none = rw (c.deref.ensures.value, o) at c.in_default.ensures.none in
    inl (ap (elements_turn c.args.limit) (sym c.self.view_is)
    ∙ (elements_over c.args.limit s.certificate s.pairs.items _ _
    (λ x b. leads_nowhere s.certificate r s.pairs.items s.contexts.items _ _ i.0 i.1
    c.index.result.now c.index.ensures x b (λ u. none u x b)) (omega arith) (omega arith)
    ∙ ap Closing (sym c.new-closing.ensures.value)))

pub new-closing-requires : goal.new-closing-requires
new-closing-requires g c =
    let i = c.self.invariant in
    let few = i.3 in
    let s = c.self.inside in
    let r = c.order-order.ensures.lawful.in_ranges in
    let o = c.order-order.ensures.value in
    let v = i.0.value in
    let n = c.len.ensures in
    let obeys =
    obeys_at s.certificate r s.pairs.items s.contexts.items _ _ c.index.result.now i.0 i.1
    c.index.ensures (rw (c.deref.ensures.value, o) at c.in_default.ensures.none) in
    let over = heap_turn s.certificate r s.pairs.items s.contexts.items _ _ i.0 obeys (omega arith) i.1
    in (
      omega arith,
      (
        closing_fits g.row.A g.A.Allocator g.met.A.SmallAllocator.small g.row.LANES few,
        (
          i.2,
          (
            few,
            (
              i.0.canonical,
              (
                i.0.exact,
                elements_end s.certificate r s.pairs.items s.contexts.items _ _ over (omega arith),
              ),
            ),
          ),
        ),
      ),
    )
