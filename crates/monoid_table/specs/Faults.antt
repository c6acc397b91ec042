-- The numbers of the faults of tables, and what a job answers. This project's own.
use Rattle.std.specs.Prelude.{ℕ, Bool, ◌==◌, if◌then◌else◌, Result, Ok, Err}
use Rattle.monoid_table.specs.declared.fault.LawFault.{LawFault}
use Rattle.monoid_table.specs.declared.fault.LawFault.TheVariants.{Shape, Law}
use Rattle.monoid_table.specs.Turns.{JobState, triples}

abbrev pub number_of : LawFault → ℕ
number_of Shape = 1
number_of Law = 2

-- whether all triples hold, or the fault
abbrev pub answer_of : JobState → Result Bool LawFault
answer_of s = if s.refused then Err Law else Ok (s.spent == triples s.grid.order)
