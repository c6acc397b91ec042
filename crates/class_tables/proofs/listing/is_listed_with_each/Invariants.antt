use Rattle.std.proofs.Common.{ℕ, ◌<◌}
use Rattle.class_tables.proofs.Listed.{IsListedWith}
use Rattle.class_tables.proofs.listing.is_listed_with_each.Given as goal

abbrev pub invariant-loop-i : goal.invariant-loop-i
invariant-loop-i g l = (k : ℕ) → k < l.i → IsListedWith l.p l.folds l.list l.word k
