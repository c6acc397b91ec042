use Rattle.std.proofs.Common.{◌≡◌, ◌<◌, ℕ}
use Rattle.monoid_table.specs.Grids.{entry}
use Rattle.own_quotients.proofs.identities.is_identity.Given as goal

abbrev pub invariant-loop-x : goal.invariant-loop-x
invariant-loop-x g l = (k : ℕ) → k < l.x → entry l.table.order l.table.rows l.e k ≡ k
