use Rattle.std.proofs.Common.{ℕ, ◌<◌, get_or}
use Rattle.monoid_table.proofs.triples.is_shaped.Given as goal

abbrev pub invariant-loop-x : goal.invariant-loop-x
invariant-loop-x l = (k : ℕ) → k < l.x-index → get_or l.rows k 0 < l.order
