use Rattle.std.proofs.Common.{rules, arith}
use Rattle.transition_algebra.proofs.Fit.{heap_job_fits}
use Rattle.acceptance.proofs.transition_algebra_tests.in_pieces.Goals as goal

pub new-job-requires : goal.new-job-requires
new-job-requires g c = (
  heap_job_fits 8 g.row.A g.A.Allocator (omega arith) g.met.A.SmallAllocator.small,
  (search rules, search rules),
)

pub work-requires : goal.work-requires
work-requires g c = heap_job_fits 8 g.row.A g.A.Allocator (omega arith) g.met.A.SmallAllocator.small

pub pairs-requires : goal.pairs-requires
pairs-requires g c = (
  heap_job_fits 8 g.row.A g.A.Allocator (omega arith) g.met.A.SmallAllocator.small,
  omega arith,
)
