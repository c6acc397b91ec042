use Rattle.std.proofs.Common.{◌≡◌, ◌<◌, ◌≤◌, length}
use Rattle.std.specs.Prelude.{drop, slice_index}
use Rattle.nim_tails.specs.Normal.{nim_sum}
use Rattle.nim_tails.specs.declared.TheConstants.{NIM_BOUND}
use Rattle.nim_tails.proofs.sums.nim_sum.Given as goal

abbrev pub invariant-loop-at : goal.invariant-loop-at
invariant-loop-at l = (l.at ≤ length l.heaps)
    × (l.sum ≡ nim_sum (slice_index l.values) (drop l.at l.heaps)) × (l.sum < NIM_BOUND)

abbrev pub decreases-loop-at : goal.decreases-loop-at
decreases-loop-at l = l.at
