use Rattle.std.proofs.Common.{map, take}
use Rattle.catalogue.specs.Files.{written}
use Rattle.catalogue.specs.Loads.{Stand}
use Rattle.catalogue.proofs.loading.catalogue_of.Given as goal

abbrev pub invariant-loop-at : goal.invariant-loop-at
invariant-loop-at l = Stand l.limit (take l.at (map written l.entries)) l.catalogue
