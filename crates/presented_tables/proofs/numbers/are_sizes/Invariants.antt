use Rattle.std.proofs.Common.{ℕ, ◌<◌}
use Rattle.presented_tables.specs.Numbers.{IsSize}
use Rattle.presented_tables.proofs.numbers.are_sizes.Given as goal

abbrev pub invariant-loop-g : goal.invariant-loop-g
invariant-loop-g g l = (m : ℕ) → m < l.g → IsSize l.p l.s m
