use Rattle.std.proofs.Common.{◌≡◌, ◌≤◌, ◌++◌, ◌+◌, length, take}
use Rattle.std.specs.List.Sorted.{IsNonDecreasing, IsPermutation}
use Rattle.heap_options.specs.Exact.{heaps_of}
use Rattle.positions.proofs.position.add_left.Given as goal

abbrev pub invariant-loop-heap : goal.invariant-loop-heap
invariant-loop-heap g l =
    IsPermutation (take l.heap-index (heaps_of l.fn.left) ++ l.initial.heaps.items) l.heaps.items
    × IsNonDecreasing l.heaps.items
    × (length l.heaps.items ≡ length l.initial.heaps.items + l.heap-index)
    × (l.initial.heaps.capacity ≤ l.heaps.capacity)
