use Rattle.std.proofs.Common.{arith, sym, ap, ◌∙◌}
use Rattle.check_machine.specs.Turns.{products_turn}
use Rattle.check_machine.specs.Turns.Phase.{Periods}
use Rattle.check_machine.proofs.FaultLaws.{none_below_word, none_below_order, none_below_period}
use Rattle.check_machine.proofs.KeyLaws.{keys_fault_free}
use Rattle.check_machine.proofs.ProductLaws.{product_turn, row_turn, products_end}
use Rattle.checker.proofs.LoopTurns.{products_missed, products_next, products_row, products_over}
use Rattle.checker.proofs.products.Products.turn.Goals as goal

pub returns-then-not-is_in_order : goal.returns-then-not-is_in_order
returns-then-not-is_in_order g c =
    sym (ap products_turn (sym c.self.view_is)
    ∙ products_missed _ _ _ _ c.is_in_order.ensures.same c.if-not-is_in_order.true)

pub returns-then-heap-start : goal.returns-then-heap-start
returns-then-heap-start g c =
    let a = c.start.ensures.value in
    let b = c.period.ensures.value in
    sym (ap products_turn (sym c.self.view_is)
    ∙ products_next _ _ _ _ c.is_in_order.ensures.same c.if-not-is_in_order.false (omega arith)
    c.self.invariant.1)

pub invariant_of-result : goal.invariant_of-result
invariant_of-result g c =
    let a = c.start.ensures.value in
    let b = c.period.ensures.value in (
      product_turn _ _ _ c.self.invariant.0
          (c.is_in_order.ensures.in_order c.if-not-is_in_order.false) (omega arith),
      c.self.invariant.1,
    )

pub returns-then-element-order : goal.returns-then-element-order
returns-then-element-order g c =
    let a = c.start.ensures.value in
    let b = c.period.ensures.value in
    let e = c.order.ensures.value in
    let l = c.self.invariant.0.heap in
    sym (ap products_turn (sym c.self.view_is)
    ∙ products_row _ _ _ _ c.is_in_order.ensures.same c.if-not-is_in_order.false (omega arith)
    (omega arith))

pub invariant_of-result-then-element-order : goal.invariant_of-result-then-element-order
invariant_of-result-then-element-order g c =
    let a = c.start.ensures.value in
    let b = c.period.ensures.value in
    let e = c.order.ensures.value in
    let l = c.self.invariant.0.heap in (
      row_turn _ _ _ c.self.invariant.0 (c.is_in_order.ensures.in_order c.if-not-is_in_order.false)
          (omega arith) c.self.invariant.1,
      omega arith,
    )

pub returns : goal.returns
returns g c =
    let a = c.start.ensures.value in
    let b = c.period.ensures.value in
    let e = c.order.ensures.value in
    let l = c.self.invariant.0.heap in
    ap Periods c.new.ensures.value
    ∙ sym (ap products_turn (sym c.self.view_is)
    ∙ products_over _ _ _ _ c.is_in_order.ensures.same c.if-not-is_in_order.false (omega arith)
    (omega arith))

pub new-requires : goal.new-requires
new-requires g c =
    let s = c.self.inside in
    let a = c.start.ensures.value in
    let b = c.period.ensures.value in
    let e = c.order.ensures.value in
    let i = c.self.invariant.0 in
    let l = i.heap in
    none_below_period s.certificate
    (none_below_order s.certificate (none_below_word s.certificate c.order.ensures.lawful.monoid)
    (keys_fault_free s.certificate i.keys.keyed))
    (products_end s.certificate _ _
    (row_turn _ _ _ i (c.is_in_order.ensures.in_order c.if-not-is_in_order.false) (omega arith)
    c.self.invariant.1) (omega arith))
