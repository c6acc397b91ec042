use Rattle.std.specs.String.{string_bytes}
use Rattle.description_commands.specs.Shown.{AreHeapLines}
use Rattle.description_commands.proofs.showing.heaps_text.Given as goal

abbrev pub invariant-loop-heap : goal.invariant-loop-heap
invariant-loop-heap l = AreHeapLines l.certified l.heap (string_bytes l.text)
