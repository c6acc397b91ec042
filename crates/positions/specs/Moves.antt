-- The numbers of the faults of a move.
use Rattle.std.specs.Prelude.{ℕ}
use Rattle.positions.specs.declared.moves.MoveFault.{MoveFault}
use Rattle.positions.specs.declared.moves.MoveFault.TheVariants.{NoSuchHeap, NotAllowed, Memory}

abbrev pub move_fault_number : MoveFault → ℕ
move_fault_number NoSuchHeap = 1
move_fault_number NotAllowed = 2
move_fault_number Memory = 9
