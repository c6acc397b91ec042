use Rattle.std.proofs.Common.{◌≡◌, ℕ, ◌+◌, ◌-◌, length, slice_index}
use Rattle.pair_closure.proofs.members.reach.Given as goal

abbrev pub invariant-loop-newest : goal.invariant-loop-newest
invariant-loop-newest g l = (v : ℕ)
    → slice_index l.newest.items v ≡ slice_index l.initial.newest.items v

abbrev pub decreases-loop-newest : goal.decreases-loop-newest
decreases-loop-newest g l = l.value + 1 - length l.newest.items
