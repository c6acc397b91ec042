use Rattle.std.proofs.Common.{ℕ, ◌<◌}
use Rattle.monoid_table.specs.Grids.{entry}
use Rattle.monoid_table.specs.Light.{IsGenerator, AssociatesAt}
use Rattle.monoid_table.proofs.light.generators_associate.Given as goal

abbrev pub invariant-loop-y : goal.invariant-loop-y
invariant-loop-y l = (k : ℕ) → k < l.y → 0 < k → IsGenerator (entry l.order l.rows) k
    → AssociatesAt l.order (entry l.order l.rows) k
