use Rattle.std.proofs.Common.{◌≡◌, ℕ, ◌<◌, ◌≤◌, true, slice_index}
use Rattle.kept_positions.specs.Numbers.{is_bad}
use Rattle.kept_positions.proofs.entries.are_bad_entries.Given as goal

abbrev pub invariant-loop-o : goal.invariant-loop-o
invariant-loop-o g l = (o : ℕ) → l.from ≤ o → o < l.o
    → is_bad l.t l.x (slice_index l.k.others o) (slice_index l.k.heaps o) ≡ true
