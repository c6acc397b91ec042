use Rattle.std.proofs.Common.{ℕ, ◌<◌, List}
use Rattle.std.specs.Prelude.{slice_index_or}
use Rattle.class_tables.specs.Powers.{HasOther}
use Rattle.class_tables.proofs.powers.is_unbounded.Given as goal

abbrev pub invariant-loop-k : goal.invariant-loop-k
invariant-loop-k l = (j : ℕ) (d : List ℕ × List ℕ) → j < l.k → HasOther l.i (slice_index_or l.rules j d).0
