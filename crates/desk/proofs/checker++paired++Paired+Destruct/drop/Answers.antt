-- What is dropped of a check's stage over pairs fits in memory.
use Rattle.std.proofs.Common.{rules}
use Rattle.checker.proofs.Fit.{heaps_below, elements_below, closing_below}
use Rattle.desk.proofs.checker++paired++Paired+Destruct.drop.Goals as goal

pub drop-requires : goal.drop-requires
drop-requires g c = heaps_below g.row.LANES g.row.A g.A.Allocator (search rules)

pub drop-requires-2 : goal.drop-requires-2
drop-requires-2 g c = elements_below g.row.LANES g.row.A g.A.Allocator (search rules)

pub drop-requires-3 : goal.drop-requires-3
drop-requires-3 g c = closing_below g.row.LANES g.row.A g.A.Allocator (search rules)
