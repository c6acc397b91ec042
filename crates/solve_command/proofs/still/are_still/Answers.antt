use Rattle.std.proofs.Common.{arith, refl}
use Rattle.solve_command.proofs.First.{one_more}
use Rattle.solve_command.proofs.still.are_still.Goals as goal

pub returns-then-has_option : goal.returns-then-has_option
returns-then-has_option c = (
  (λ t. absurd cc),
  (λ still. absurd (still c.loop-heap.heap (
    (let low = c.loop-heap.auto.heap in omega (arith, low)),
    (let end = c.from-heap-end.ensures in
        let test = c.loop-heap-test.true in
        let top = c.loop-heap.auto.heap-end in
        omega (arith, end, test, top)),
  )
      (c.has_option.ensures.0 c.if-has_option.true))),
)

pub loop-heap-preserved : goal.loop-heap-preserved
loop-heap-preserved c =
    one_more c.args.code.now c.loop-heap.heap c.loop-heap.invariant
    (λ o. let yes = c.has_option.ensures.1 o in let no = c.if-has_option.false in absurd cc)

pub returns : goal.returns
returns c = (
  (λ t h at o. c.loop-heap.invariant h at.0
      (let end = c.from-heap-end.ensures in
      let test = c.loop-heap-test.false in
      let top = c.loop-heap.auto.heap-end in
      let few = at.1 in
      omega (arith, end, test, top, few)) o),
  (λ s. refl),
)
