use Rattle.std.proofs.Common.{◌<◌, All}
use Rattle.relations.proofs.Among.{AreAmong}
use Rattle.relations.proofs.generating.new_ones.Given as goal

abbrev pub invariant-loop-e : goal.invariant-loop-e
invariant-loop-e g l = record {
  below : All (λ e. e < l.table.order) l.kept.items;
  among : AreAmong l.elements l.kept.items;
}
