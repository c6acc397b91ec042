use Rattle.std.proofs.Common.{rules, arith}
use Rattle.pair_closure.proofs.Fit.{closure_fits}
use Rattle.acceptance.proofs.pair_closure_tests.three.Goals as goal

pub new-requires-in-Ok-heap_pairs : goal.new-requires-in-Ok-heap_pairs
new-requires-in-Ok-heap_pairs g c = (
  omega arith,
  (
    closure_fits 8 g.row.A g.A.Allocator g.met.A.SmallAllocator.small,
    (search rules, (omega arith, (search rules, search rules))),
  ),
)
