use Rattle.std.proofs.Common.{arith}
use Rattle.checker.proofs.Fit.{paired_fits}
use Rattle.desk_command.proofs.checker++any_paired++AnyPaired+Destruct.drop.Goals as goal

pub drop-requires : goal.drop-requires
drop-requires g c = paired_fits g.row.A g.A.Allocator g.met.A.SmallAllocator.small 1 (omega arith)

pub drop-requires-2 : goal.drop-requires-2
drop-requires-2 g c = paired_fits g.row.A g.A.Allocator g.met.A.SmallAllocator.small 4 (omega arith)

pub drop-requires-3 : goal.drop-requires-3
drop-requires-3 g c = paired_fits g.row.A g.A.Allocator g.met.A.SmallAllocator.small 8 (omega arith)

pub drop-requires-4 : goal.drop-requires-4
drop-requires-4 g c = paired_fits g.row.A g.A.Allocator g.met.A.SmallAllocator.small 16 (omega arith)

pub drop-requires-5 : goal.drop-requires-5
drop-requires-5 g c = paired_fits g.row.A g.A.Allocator g.met.A.SmallAllocator.small 64 (omega arith)
