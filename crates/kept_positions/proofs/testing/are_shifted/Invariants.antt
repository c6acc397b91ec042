use Rattle.std.proofs.Common.{ℕ, ◌<◌}
use Rattle.kept_positions.specs.Numbers.{IsShifted}
use Rattle.kept_positions.proofs.testing.are_shifted.Given as goal

abbrev pub invariant-loop-m : goal.invariant-loop-m
invariant-loop-m g l = (m : ℕ) → m < l.m → IsShifted l.t l.k l.from l.start l.g m
