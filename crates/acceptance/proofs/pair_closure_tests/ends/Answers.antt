use Rattle.pair_closure.proofs.Fit.{closure_fits}
use Rattle.acceptance.proofs.pair_closure_tests.ends.Goals as goal

pub grow-requires : goal.grow-requires
grow-requires g c = closure_fits 8 g.row.A g.A.Allocator g.met.A.SmallAllocator.small

pub ever-ever-requires : goal.ever-ever-requires
ever-ever-requires g c = closure_fits 8 g.row.A g.A.Allocator g.met.A.SmallAllocator.small

pub grow-requires-in-Some : goal.grow-requires-in-Some
grow-requires-in-Some g c = closure_fits 8 g.row.A g.A.Allocator g.met.A.SmallAllocator.small

pub ever-requires : goal.ever-requires
ever-requires g c = closure_fits 8 g.row.A g.A.Allocator g.met.A.SmallAllocator.small
