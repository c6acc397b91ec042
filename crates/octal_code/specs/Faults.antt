-- The numbers of the faults of a code's text.
use Rattle.std.specs.Prelude.{ℕ}
use Rattle.octal_code.specs.declared.fault.CodeFault.{CodeFault}
use Rattle.octal_code.specs.declared.fault.CodeFault.TheVariants.{NotACode, TooLong}

abbrev pub code_fault_number : CodeFault → ℕ
code_fault_number NotACode = 1
code_fault_number TooLong = 2
