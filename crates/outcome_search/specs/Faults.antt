-- The numbers of the faults of a search.
use Rattle.std.specs.Prelude.{ℕ}
use Rattle.outcome_search.specs.declared.fault.SearchFault.{SearchFault}
use Rattle.outcome_search.specs.declared.fault.SearchFault.TheVariants.{Budget, Memory}

abbrev pub search_fault_number : SearchFault → ℕ
search_fault_number Budget = 1
search_fault_number Memory = 9
