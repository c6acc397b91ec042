-- The numbers of the faults.
use Rattle.std.specs.Prelude.{ℕ}
use Rattle.catalogue.specs.declared.fault.LoadFault.{LoadFault}
use Rattle.catalogue.specs.declared.fault.LoadFault.TheVariants as load
use Rattle.catalogue.specs.declared.fault.AddFault.{AddFault}
use Rattle.catalogue.specs.declared.fault.AddFault.TheVariants as add
use Rattle.catalogue.specs.declared.fault.StoreFault.{StoreFault}
use Rattle.catalogue.specs.declared.fault.StoreFault.TheVariants as out

abbrev pub load_fault_number : LoadFault → ℕ
load_fault_number load.Json = 1
load_fault_number load.Shape = 2
load_fault_number (load.Entry i refusal) = 3
load_fault_number (load.Code i) = 4
load_fault_number (load.Twice i) = 5
load_fault_number (load.Heaps i) = 6
load_fault_number load.Memory = 9

abbrev pub add_fault_number : AddFault → ℕ
add_fault_number add.Present = 1
add_fault_number add.Memory = 9

abbrev pub store_fault_number : StoreFault → ℕ
store_fault_number out.Write = 1
store_fault_number out.Memory = 9
