use Rattle.std.proofs.Common.{◌<◌, All}
use Rattle.relations.proofs.Among.{AreAmong}
use Rattle.relations.proofs.generating.others_of.Given as goal

abbrev pub invariant-loop-i : goal.invariant-loop-i
invariant-loop-i g l = record {
  below : All (λ e. e < l.bound) l.others.items;
  among : AreAmong l.elements l.others.items;
}
