use Rattle.std.proofs.Common.{◌≡◌, true, slice_index, refl}
use Rattle.kept_positions.specs.Numbers.{is_bad}
use Rattle.kept_positions.proofs.Below.{between}
use Rattle.kept_positions.proofs.entries.are_bad_entries.Goals as goal

pub loop-o-preserved : goal.loop-o-preserved
loop-o-preserved g c = between (λ o. is_bad c.args.t.now c.args.x (slice_index c.args.k.now.others o) (slice_index c.args.k.now.heaps o) ≡ true) c.args.from c.loop-o.o c.loop-o.invariant (c.if-not-is_bad_entry.ensures refl)
