use Rattle.std.proofs.Common.{◌<◌, All}
use Rattle.relations.proofs.Among.{AreAmong}
use Rattle.relations.proofs.generating.needed.Given as goal

abbrev pub invariant-loop-k : goal.invariant-loop-k
invariant-loop-k g l = record {
  below : All (λ e. e < l.table.order) l.kept.items;
  among : AreAmong l.fn.elements.items l.kept.items;
}
