use Rattle.std.proofs.Common.{slice_index, refl}
use Rattle.kept_positions.specs.Numbers.{IsMarked}
use Rattle.kept_positions.proofs.Below.{between}
use Rattle.kept_positions.proofs.families.are_marked.Goals as goal

pub loop-o-preserved : goal.loop-o-preserved
loop-o-preserved g c = between (λ p. IsMarked c.args.marks.now (slice_index c.args.u.now.onto p)) c.args.from c.loop-o.o c.loop-o.invariant (c.if-not-is_marked_at.ensures refl)
