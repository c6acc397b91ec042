use Rattle.std.proofs.Common.{arith}
use Rattle.checker.proofs.Fit.{heaps_fits, elements_fits, closing_fits, paired_fits}
use Rattle.checker.proofs.ComeLemmas.{comes_none, comes_one}
use Rattle.checker.proofs.paired.Paired.work.Goals as goal

pub returns-then-left-eq0 : goal.returns-then-left-eq0
returns-then-left-eq0 g c = λ bytes. comes_none bytes c.args.limit _ _ c.if-left-eq0.true

pub returns-in-Heaps : goal.returns-in-Heaps
returns-in-Heaps g c = λ bytes. rw c.in-Heaps.is (c.work.ensures bytes c.args.limit)

pub returns-in-Elements : goal.returns-in-Elements
returns-in-Elements g c =
    λ bytes. rw c.in-Elements.is (comes_one bytes c.args.limit _ _ _ (omega arith) c.turn.ensures)

pub returns-in-Closing : goal.returns-in-Closing
returns-in-Closing g c = λ bytes. rw c.in-Closing.is (c.work-in-Closing.ensures bytes c.args.limit)

pub work-requires : goal.work-requires
work-requires g c = (
  heaps_fits g.row.A g.A.Allocator g.met.A.SmallAllocator.small g.row.LANES c.requires,
  paired_fits g.row.A g.A.Allocator g.met.A.SmallAllocator.small g.row.LANES c.requires,
)

pub turn-requires : goal.turn-requires
turn-requires g c = (
  elements_fits g.row.A g.A.Allocator g.met.A.SmallAllocator.small g.row.LANES c.requires,
  paired_fits g.row.A g.A.Allocator g.met.A.SmallAllocator.small g.row.LANES c.requires,
)

pub work-requires-in-Closing : goal.work-requires-in-Closing
work-requires-in-Closing g c = (
  closing_fits g.row.A g.A.Allocator g.met.A.SmallAllocator.small g.row.LANES c.requires,
  paired_fits g.row.A g.A.Allocator g.met.A.SmallAllocator.small g.row.LANES c.requires,
)
