-- The numbers under which faults are printed. This project's own.
use Rattle.std.specs.Prelude.{ℕ}
use Rattle.certificate_lines.specs.declared.fault.TextFault.{TextFault}
use Rattle.certificate_lines.specs.declared.fault.TextFault.TheVariants.{Text, Memory}

abbrev pub text_fault_number : TextFault → ℕ
text_fault_number Text = 1
text_fault_number Memory = 9
