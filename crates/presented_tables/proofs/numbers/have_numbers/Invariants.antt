use Rattle.std.proofs.Common.{ℕ, ◌<◌}
use Rattle.kept_positions.specs.Kept.{IsMovable}
use Rattle.presented_tables.specs.Tested.{HasWord}
use Rattle.presented_tables.specs.Numbers.{HasNumber}
use Rattle.presented_tables.proofs.numbers.have_numbers.Given as goal

abbrev pub invariant-loop-n : goal.invariant-loop-n
invariant-loop-n g l = (m : ℕ) → m < l.n → IsMovable (HasWord l.p) l.p.code m → HasNumber l.s m
