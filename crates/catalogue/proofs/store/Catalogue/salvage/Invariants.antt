use Rattle.std.proofs.Common.{◌++◌, ◌+◌, List, [], map, drop}
use Rattle.misere_theory.specs.Certificates.{Certificate}
use Rattle.catalogue.specs.Files.{written}
use Rattle.catalogue.specs.Salvages.{Salvages}
use Rattle.catalogue.specs.declared.fault.LoadFault.{LoadFault}
use Rattle.catalogue.proofs.store.Catalogue.salvage.Given as goal

-- whatever becomes of the entries that are left becomes of all, behind what was kept and listed
abbrev pub invariant-loop-at : goal.invariant-loop-at
invariant-loop-at l =
    (cs : List Certificate) (more : List LoadFault)
    → Salvages l.limit l.catalogue (l.at + 1) (drop l.at (map written l.entry-items)) cs more
    → Salvages l.limit [] 1 (map written l.entry-items) cs (l.faults.items ++ more)
