use Rattle.std.proofs.Common.{◌≡◌, ℕ, ◌<◌}
use Rattle.std.specs.Prelude.{◌==◌, nat_lt, ◌&&◌, false, slice_index, slice_index_or}
use Rattle.std.specs.Int.{bit_at}
use Rattle.compact_certificates.proofs.separators.lane.Given as goal

-- the elements up to j are looked at
abbrev pub invariant-loop-j : goal.invariant-loop-j
invariant-loop-j l =
    (k : ℕ) → k < 64
    → (bit_at l.lane k == 1)
    ≡ (nat_lt k l.j && slice_index_or l.marked (slice_index l.elements k) false)
