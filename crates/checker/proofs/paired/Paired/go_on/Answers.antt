use Rattle.std.proofs.Common.{refl}
use Rattle.checker.proofs.Fit.{heaps_fits, elements_fits}
use Rattle.check_machine.proofs.TurnLaws.{runs-none}
use Rattle.checker.proofs.paired.Paired.go_on.Goals as goal

pub returns-in-Heaps : goal.returns-in-Heaps
returns-in-Heaps g c = rw c.in-Heaps.is (record { runs = c.go_on.ensures; same = refl })

pub returns-in-Elements : goal.returns-in-Elements
returns-in-Elements g c = rw c.in-Elements.is (record { runs = c.go_on-in-Elements.ensures; same = refl })

pub returns-in-Closing : goal.returns-in-Closing
returns-in-Closing g c = record { runs = λ bytes limit. runs-none bytes limit _ _ _ refl; same = refl }

pub go_on-requires : goal.go_on-requires
go_on-requires g c = heaps_fits g.row.A g.A.Allocator g.met.A.SmallAllocator.small g.row.LANES c.requires

pub go_on-requires-in-Elements : goal.go_on-requires-in-Elements
go_on-requires-in-Elements g c = elements_fits g.row.A g.A.Allocator g.met.A.SmallAllocator.small g.row.LANES c.requires
