use Rattle.std.proofs.Common.{arith}
use Rattle.checker.proofs.Fit.{heaps_fits}
use Rattle.checker.proofs.any_paired.AnyPaired.new.Goals as goal

pub new-requires : goal.new-requires
new-requires g c =
    let order = c.order-order.ensures.value in
    let most = c.order-order.ensures.lawful.in_ranges.order.1 in (
      heaps_fits g.row.A g.A.Allocator g.met.A.SmallAllocator.small 1 (omega arith),
      (omega arith, (omega arith, c.requires)),
    )

pub new-requires-then-order-le256 : goal.new-requires-then-order-le256
new-requires-then-order-le256 g c =
    let order = c.order-order.ensures.value in
    let most = c.order-order.ensures.lawful.in_ranges.order.1 in (
      heaps_fits g.row.A g.A.Allocator g.met.A.SmallAllocator.small 4 (omega arith),
      (omega arith, (omega arith, c.requires)),
    )

pub new-requires-then-order-le512 : goal.new-requires-then-order-le512
new-requires-then-order-le512 g c =
    let order = c.order-order.ensures.value in
    let most = c.order-order.ensures.lawful.in_ranges.order.1 in (
      heaps_fits g.row.A g.A.Allocator g.met.A.SmallAllocator.small 8 (omega arith),
      (omega arith, (omega arith, c.requires)),
    )

pub new-requires-then-order-le1024 : goal.new-requires-then-order-le1024
new-requires-then-order-le1024 g c =
    let order = c.order-order.ensures.value in
    let most = c.order-order.ensures.lawful.in_ranges.order.1 in (
      heaps_fits g.row.A g.A.Allocator g.met.A.SmallAllocator.small 16 (omega arith),
      (omega arith, (omega arith, c.requires)),
    )

pub new-requires-else-order-le1024 : goal.new-requires-else-order-le1024
new-requires-else-order-le1024 g c =
    let order = c.order-order.ensures.value in
    let most = c.order-order.ensures.lawful.in_ranges.order.1 in (
      heaps_fits g.row.A g.A.Allocator g.met.A.SmallAllocator.small 64 (omega arith),
      (omega arith, (omega arith, c.requires)),
    )
