-- At each width of the sets.
use Rattle.std.proofs.Common.{arith}
use Rattle.checker.proofs.Fit.{paired_fits}
use Rattle.checker.proofs.any_paired.AnyPaired.go_on.Goals as goal

pub go_on-requires : goal.go_on-requires
go_on-requires g c = (
  paired_fits g.row.A g.A.Allocator g.met.A.SmallAllocator.small 1 (omega arith),
  omega arith,
)

pub returns-in-One : goal.returns-in-One
returns-in-One g c = rw c.in-One.is c.go_on.ensures

pub go_on-requires-in-Four : goal.go_on-requires-in-Four
go_on-requires-in-Four g c = (
  paired_fits g.row.A g.A.Allocator g.met.A.SmallAllocator.small 4 (omega arith),
  omega arith,
)

pub returns-in-Four : goal.returns-in-Four
returns-in-Four g c = rw c.in-Four.is c.go_on-in-Four.ensures

pub go_on-requires-in-Eight : goal.go_on-requires-in-Eight
go_on-requires-in-Eight g c = (
  paired_fits g.row.A g.A.Allocator g.met.A.SmallAllocator.small 8 (omega arith),
  omega arith,
)

pub returns-in-Eight : goal.returns-in-Eight
returns-in-Eight g c = rw c.in-Eight.is c.go_on-in-Eight.ensures

pub go_on-requires-in-Sixteen : goal.go_on-requires-in-Sixteen
go_on-requires-in-Sixteen g c = (
  paired_fits g.row.A g.A.Allocator g.met.A.SmallAllocator.small 16 (omega arith),
  omega arith,
)

pub returns-in-Sixteen : goal.returns-in-Sixteen
returns-in-Sixteen g c = rw c.in-Sixteen.is c.go_on-in-Sixteen.ensures

pub go_on-requires-in-SixtyFour : goal.go_on-requires-in-SixtyFour
go_on-requires-in-SixtyFour g c = (
  paired_fits g.row.A g.A.Allocator g.met.A.SmallAllocator.small 64 (omega arith),
  omega arith,
)

pub returns-in-SixtyFour : goal.returns-in-SixtyFour
returns-in-SixtyFour g c = rw c.in-SixtyFour.is c.go_on-in-SixtyFour.ensures
