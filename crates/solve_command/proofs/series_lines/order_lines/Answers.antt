use Rattle.std.proofs.Common.{◌∙◌, ◌+◌, ◌++◌, ap, sym, subst, refl, arith, ℕ, List}
use Rattle.solve_command.specs.Series.{AreOrders}
use Rattle.solve_command.specs.Series.AreOrders.{Heaps, NoHeap}
use Rattle.solve_command.specs.Series.EndsWith.{AtLast, Unfound}
use Rattle.solve_command.proofs.SeriesParts.{found_of, unfound_of}
use Rattle.solve_command.proofs.series_lines.order_lines.Goals as goal

pub heaps-init : goal.heaps-init
heaps-init g c = (
  subst (λ (t : List ℕ). AreOrders c.args.code.now c.args.bounds.order 0 t)
      (sym c.new-text.ensures.items) NoHeap,
  omega arith,
)

pub returns-in-None : goal.returns-in-None
returns-in-None g c =
    record {
      n = c.heaps.last;
      orders = c.heaps.invariant.0;
      ends = Unfound (unfound_of g.S.Searches.has_asked c.args.code.now c.args.bounds (c.heaps.last + 1)
          c.in_ok-order.field-0 c.in-None.is c.in_ok-order.ensures);
      well = refl;
    }

pub heaps-preserved : goal.heaps-preserved
heaps-preserved g c = (
  subst (λ (t : List ℕ). AreOrders c.args.code.now c.args.bounds.order (c.heaps.last + 1) t)
      (sym (c.in_ok-extend_from_slice-in-Some.ensures.items
      ∙ ap (λ (t : List ℕ). c.heaps.text.items ++ t)
      (c.as_bytes.ensures.value ∙ c.in_ok-line-in-Some.ensures)))
      (Heaps c.in-Some.order c.heaps.invariant.0
      (found_of g.S.Searches.has_asked c.args.code.now c.args.bounds (c.heaps.last + 1) c.in_ok-order.field-0
      c.in-Some.order c.in-Some.is c.in_ok-order.ensures)),
  (let test = c.heaps-test.true in omega (arith, test)),
)

pub returns : goal.returns
returns g c =
    record {
      n = c.heaps.last;
      orders = c.heaps.invariant.0;
      ends = AtLast (let test = c.heaps-test.false in
          let most = c.heaps.invariant.1 in
          omega (arith, test, most));
      well = refl;
    }
