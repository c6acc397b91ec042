-- What is found of a part is found of the code.
use Rattle.std.proofs.Common.{ℕ, List, Result, Ok, Err, IfOk}
use Rattle.command_results.specs.declared.said.Said.{Said}
use Rattle.solve_command.specs.Found.{Finds, FindsPart}
use Rattle.solve_command.specs.Found.Finds.{FoundPart}

pub part_found : {E : Type 0} (code : List ℕ) (heaps : ℕ) (r : Result Said E)
    → IfOk r (λ s. FindsPart code heaps s.text.items s.succeeds)
    → IfOk r (λ s. Finds code heaps s.text.items s.succeeds)
part_found code heaps (Ok s) found = FoundPart found
part_found code heaps (Err e) found = tt
