use Rattle.std.proofs.Common.{◌≡◌, ℕ, ◌<◌, ◌≤◌}
use Rattle.monoid_table.specs.Grids.{entry}
use Rattle.monoid_table.proofs.triples.first_breach.Given as goal

abbrev pub invariant-loop-z : goal.invariant-loop-z
invariant-loop-z l = (k : ℕ) → l.from ≤ k → k < l.z
    → entry l.order l.rows (entry l.order l.rows l.x l.y) k
    ≡ entry l.order l.rows l.x (entry l.order l.rows l.y k)
