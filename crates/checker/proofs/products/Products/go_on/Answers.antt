use Rattle.std.proofs.Common.{rules, refl, arith, ap, ◌≡◌, ◌<◌, ◌+◌}
use Rattle.check_machine.proofs.ProductLaws.{product_turn, row_turn}
use Rattle.check_machine.specs.Turns.Phase.{Products}
use Rattle.check_machine.proofs.TurnLaws.{runs-none}
use Rattle.checker.proofs.ComeLemmas.{runs_turn}
use Rattle.checker.proofs.LoopTurns.{products_next, products_row}
use Rattle.checker.proofs.products.Products.go_on.Goals as goal

pub products-init : goal.products-init
products-init g c =
    let v = c.order-last.ensures.value in
    let w = c.order-last.ensures.lawful.in_ranges.order.0 in
    record {
      last = omega arith;
      heaps = search rules;
      lawful = c.order-last.ensures.lawful;
      so_far = c.self.invariant.0;
      within = c.self.invariant.1;
      runs = λ bytes limit. runs-none bytes limit _ _ _ (ap Products c.self.view_is);
    }

pub products-preserved-then-self-heaps : goal.products-preserved-then-self-heaps
products-preserved-then-self-heaps g c =
    let i = c.products.invariant in
    let e = i.heaps in
    let s = c.products.self-inside in
    let l : s.heap + 1 < s.certificate.start + s.certificate.period = omega arith in
    record {
      last = i.last;
      heaps = i.heaps;
      lawful = i.lawful;
      so_far = product_turn _ _ _ i.so_far (c.is_in_order.ensures.in_order c.if-is_in_order.true) l;
      within = i.within;
      runs = λ bytes limit. runs_turn bytes limit _ _ _ _ _ (i.runs bytes limit) (omega arith) refl
          (products_next _ _ _ _ c.is_in_order.ensures.same c.if-is_in_order.true l i.within);
    }

pub products-preserved : goal.products-preserved
products-preserved g c =
    let i = c.products.invariant in
    let l = i.last in
    let e = i.heaps in
    let b = i.so_far.heap in
    let s = c.products.self-inside in
    let d : s.heap + 1 ≡ s.certificate.start + s.certificate.period = omega arith in
    record {
      last = i.last;
      heaps = i.heaps;
      lawful = i.lawful;
      so_far =
          row_turn _ _ _ i.so_far (c.is_in_order.ensures.in_order c.if-is_in_order.true) d i.within;
      within = omega arith;
      runs = λ bytes limit. runs_turn bytes limit _ _ _ _ _ (i.runs bytes limit) (omega arith) refl
          (products_row _ _ _ _ c.is_in_order.ensures.same c.if-is_in_order.true d (omega arith));
    }
