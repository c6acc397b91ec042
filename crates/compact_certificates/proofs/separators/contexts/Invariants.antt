use Rattle.std.proofs.Common.{◌≡◌, ℕ, ◌+◌, ◌*◌, ◌/◌, ◌<◌, length}
use Rattle.std.specs.Prelude.{nat_lt, ◌&&◌, false, slice_index, slice_index_or, slice_range}
use Rattle.compact_certificates.specs.Lanes.{has}
use Rattle.compact_certificates.proofs.separators.contexts.Given as goal

-- the elements up to x have their contexts
abbrev pub invariant-loop-x : goal.invariant-loop-x
invariant-loop-x g l = record {
  long : length l.lanes.items ≡ l.x * ((l.order + 63) / 64);
  bits : (w z : ℕ) → w < l.x
      → has (slice_range l.lanes.items (w * ((l.order + 63) / 64))
      (w * ((l.order + 63) / 64) + (l.order + 63) / 64)) z
      ≡ (nat_lt z l.order && slice_index_or l.marked (slice_index l.rows (w * l.order + z)) false);
}
