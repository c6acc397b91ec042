use Rattle.std.proofs.Common.{ℕ, ◌<◌}
use Rattle.class_tables.specs.Turns.{IsTurned}
use Rattle.class_tables.proofs.turning.are_turned.Given as goal

abbrev pub invariant-loop-k : goal.invariant-loop-k
invariant-loop-k g l = (m : ℕ) → m < l.k → (h : ℕ) → h < l.t.heaps → IsTurned l.p l.l l.s l.f l.t l.u m h
