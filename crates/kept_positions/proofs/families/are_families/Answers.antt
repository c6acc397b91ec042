use Rattle.std.proofs.Common.{List, Bool, refl}
use Rattle.kept_positions.specs.Numbers.{IsFamily}
use Rattle.kept_positions.proofs.Below.{between}
use Rattle.kept_positions.proofs.families.are_families.Goals as goal

pub loop-i-preserved : goal.loop-i-preserved
loop-i-preserved g c = between (λ j. (shown : List Bool) × IsFamily c.args.t.now c.args.u.now c.args.k.now j shown) 1 c.loop-i.i c.loop-i.invariant (c.if-not-is_family.ensures refl)
