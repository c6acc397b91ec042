use Rattle.std.proofs.Common.{◌∷◌, ◌∙◌, length, slice_index, ap, subst, arith}
use Rattle.std.specs.List.Sorted.{IsPermutation}
use Rattle.heap_options.specs.Exact.{heaps_of}
use Rattle.positions.proofs.Permuted.{added_more}
use Rattle.positions.proofs.position.add_left.Goals as goal

pub loop-heap-preserved : goal.loop-heap-preserved
loop-heap-preserved g c =
    let same = c.as_slice-heap-items.ensures ∙ c.heaps-added.ensures in
    let len = ap length same in
    let inside = c.loop-heap-test.true in
    let count = c.loop-heap.invariant.2 in
    let capacity = c.loop-heap.invariant.3 in
    let more = c.add_heap.ensures.len in
    let kept = c.add_heap.ensures.capacity in (
      added_more (heaps_of c.args.left) c.args.heaps.now.items c.loop-heap.heaps.items
          c.add_heap.new.heaps.items c.loop-heap.heap-index (omega arith) c.loop-heap.invariant.0
          (subst
          (λ xs. IsPermutation (slice_index xs c.loop-heap.heap-index ∷ c.loop-heap.heaps.items)
          c.add_heap.new.heaps.items) same c.add_heap.ensures.same),
      c.add_heap.ensures.rising,
      omega arith,
      omega arith,
    )
