use Rattle.std.proofs.Common.{◌≡◌, ℕ, ◌<◌}
use Rattle.std.specs.Prelude.{slice_index}
use Rattle.presented_claims.specs.Led.{RunsOn}
use Rattle.class_tables.specs.Leads.{turn_of}
use Rattle.class_tables.proofs.separating.stays.Given as goal

abbrev pub invariant-loop-j : goal.invariant-loop-j
invariant-loop-j l = (k : ℕ) → k < l.j → RunsOn l.folds l.a k → slice_index (turn_of l.led k) l.i ≡ 0
