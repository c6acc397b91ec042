use Rattle.std.specs.Prelude.{take}
use Rattle.std.specs.List.Sorted.{IsPermutation}
use Rattle.player.proofs.heaps.position_of.Given as goal

abbrev pub invariant-loop-heap : goal.invariant-loop-heap
invariant-loop-heap l = IsPermutation (take l.heap-index l.heaps) l.position
