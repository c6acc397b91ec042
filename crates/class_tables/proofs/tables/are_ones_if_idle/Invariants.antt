use Rattle.std.proofs.Common.{ℕ, ◌<◌}
use Rattle.presented_tables.specs.Tested.{IsOneIfIdle}
use Rattle.class_tables.proofs.tables.are_ones_if_idle.Given as goal

abbrev pub invariant-loop-n : goal.invariant-loop-n
invariant-loop-n g l = (m : ℕ) → m < l.n → IsOneIfIdle l.p m
