use Rattle.std.proofs.Common.{◌≡◌, ◌≢◌, ℕ, ◌<◌}
use Rattle.std.specs.Prelude.{slice_index}
use Rattle.presented_claims.specs.Led.{RunsOn}
use Rattle.class_tables.specs.Leads.{turn_of}
use Rattle.class_tables.proofs.separating.is_own.Given as goal

abbrev pub invariant-loop-k : goal.invariant-loop-k
invariant-loop-k l = (m : ℕ) → m < l.k → RunsOn l.folds l.a m → l.j ≢ m → slice_index (turn_of l.led m) l.i ≡ 0
