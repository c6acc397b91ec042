use Rattle.std.proofs.Common.{ℕ, ◌<◌}
use Rattle.class_tables.specs.Turns.{IsTurned}
use Rattle.class_tables.proofs.turning.are_heaps_turned.Given as goal

abbrev pub invariant-loop-g : goal.invariant-loop-g
invariant-loop-g g l = (h : ℕ) → h < l.g → IsTurned l.p l.l l.s l.f l.t l.u l.k h
