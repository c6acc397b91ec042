use Rattle.std.proofs.Common.{◌≡◌, take, string_bytes}
use Rattle.std.specs.List.{flat_map}
use Rattle.catalogue_command.specs.Lines.{fault_line}
use Rattle.catalogue_command.proofs.lines.fault_lines.Given as goal

abbrev pub invariant-loop-fault : goal.invariant-loop-fault
invariant-loop-fault l = string_bytes l.text ≡ flat_map fault_line (take l.fault-index l.faults)
