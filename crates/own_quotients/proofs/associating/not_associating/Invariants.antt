use Rattle.std.proofs.Common.{◌≡◌, ◌<◌, ◌==◌, ℕ, true}
use Rattle.std.specs.List.{list_any}
use Rattle.monoid_table.specs.Grids.{entry}
use Rattle.monoid_table.specs.Light.{AssociatesAt}
use Rattle.own_quotients.proofs.associating.not_associating.Given as goal

abbrev pub invariant-loop-y : goal.invariant-loop-y
invariant-loop-y g l =
    (k : ℕ) → k < l.y → list_any (λ z. z == k) l.table.heaps ≡ true
    → AssociatesAt l.table.order (entry l.table.order l.table.rows) k
