-- At each width of the sets.
use Rattle.std.proofs.Common.{arith}
use Rattle.std.proofs.lemmas.Result.{err_from_is_err_and}
use Rattle.checker.proofs.Fit.{paired_fits}
use Rattle.checker.proofs.any_paired.AnyPaired.work.Goals as goal

pub work-requires : goal.work-requires
work-requires g c = (
  paired_fits g.row.A g.A.Allocator g.met.A.SmallAllocator.small 1 (omega arith),
  omega arith,
)

pub returns-in_ok-work-in-One : goal.returns-in_ok-work-in-One
returns-in_ok-work-in-One g c = λ bytes. rw c.in-One.is (c.in_ok-work-in-One.ensures bytes)

pub returns-in_err-work-in-One : goal.returns-in_err-work-in-One
returns-in_err-work-in-One g c =
    let p = err_from_is_err_and c.from_residual.result c.from_residual.ensures.1 in
    λ bytes. rw (p.1, p.2, c.in-One.is) (c.in_err-work-in-One.ensures bytes)

pub work-requires-in-Four : goal.work-requires-in-Four
work-requires-in-Four g c = (
  paired_fits g.row.A g.A.Allocator g.met.A.SmallAllocator.small 4 (omega arith),
  omega arith,
)

pub returns-in_ok-work-in-Four : goal.returns-in_ok-work-in-Four
returns-in_ok-work-in-Four g c = λ bytes. rw c.in-Four.is (c.in_ok-work-in-Four.ensures bytes)

pub returns-in_err-work-in-Four : goal.returns-in_err-work-in-Four
returns-in_err-work-in-Four g c =
    let p = err_from_is_err_and c.from_residual-in_err-work-in-Four.result c.from_residual-in_err-work-in-Four.ensures.1 in
    λ bytes. rw (p.1, p.2, c.in-Four.is) (c.in_err-work-in-Four.ensures bytes)

pub work-requires-in-Eight : goal.work-requires-in-Eight
work-requires-in-Eight g c = (
  paired_fits g.row.A g.A.Allocator g.met.A.SmallAllocator.small 8 (omega arith),
  omega arith,
)

pub returns-in_ok-work-in-Eight : goal.returns-in_ok-work-in-Eight
returns-in_ok-work-in-Eight g c = λ bytes. rw c.in-Eight.is (c.in_ok-work-in-Eight.ensures bytes)

pub returns-in_err-work-in-Eight : goal.returns-in_err-work-in-Eight
returns-in_err-work-in-Eight g c =
    let p = err_from_is_err_and c.from_residual-in_err-work-in-Eight.result c.from_residual-in_err-work-in-Eight.ensures.1 in
    λ bytes. rw (p.1, p.2, c.in-Eight.is) (c.in_err-work-in-Eight.ensures bytes)

pub work-requires-in-Sixteen : goal.work-requires-in-Sixteen
work-requires-in-Sixteen g c = (
  paired_fits g.row.A g.A.Allocator g.met.A.SmallAllocator.small 16 (omega arith),
  omega arith,
)

pub returns-in_ok-work-in-Sixteen : goal.returns-in_ok-work-in-Sixteen
returns-in_ok-work-in-Sixteen g c = λ bytes. rw c.in-Sixteen.is (c.in_ok-work-in-Sixteen.ensures bytes)

pub returns-in_err-work-in-Sixteen : goal.returns-in_err-work-in-Sixteen
returns-in_err-work-in-Sixteen g c =
    let p = err_from_is_err_and c.from_residual-in_err-work-in-Sixteen.result c.from_residual-in_err-work-in-Sixteen.ensures.1 in
    λ bytes. rw (p.1, p.2, c.in-Sixteen.is) (c.in_err-work-in-Sixteen.ensures bytes)

pub work-requires-in-SixtyFour : goal.work-requires-in-SixtyFour
work-requires-in-SixtyFour g c = (
  paired_fits g.row.A g.A.Allocator g.met.A.SmallAllocator.small 64 (omega arith),
  omega arith,
)

pub returns-in_ok-work-in-SixtyFour : goal.returns-in_ok-work-in-SixtyFour
returns-in_ok-work-in-SixtyFour g c = λ bytes. rw c.in-SixtyFour.is (c.in_ok-work-in-SixtyFour.ensures bytes)

pub returns-in_err-work-in-SixtyFour : goal.returns-in_err-work-in-SixtyFour
returns-in_err-work-in-SixtyFour g c =
    let p = err_from_is_err_and c.from_residual-in_err-work-in-SixtyFour.result c.from_residual-in_err-work-in-SixtyFour.ensures.1 in
    λ bytes. rw (p.1, p.2, c.in-SixtyFour.is) (c.in_err-work-in-SixtyFour.ensures bytes)
