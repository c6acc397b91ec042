use Rattle.std.proofs.Common.{ℕ, ◌<◌}
use Rattle.kept_positions.specs.Numbers.{IsFree}
use Rattle.kept_positions.proofs.covers.is_as_free.Given as goal

abbrev pub invariant-loop-h : goal.invariant-loop-h
invariant-loop-h g l = (m : ℕ) → m < l.h → IsFree l.t l.k l.i m → IsFree l.t l.k l.j m
