use Rattle.std.proofs.Common.{◌<◌, All, take}
use Rattle.descriptions.specs.Invariants.{AreThose}
use Rattle.descriptions.specs.Structure.{BelongsTo}
use Rattle.descriptions.proofs.components.belonging.Given as goal

abbrev pub invariant-loop-x : goal.invariant-loop-x
invariant-loop-x l = record {
  those : AreThose (BelongsTo l.table l.e l.share) (take l.x-index l.listing) l.found.items;
  within : All (λ x. x < l.table.order) l.found.items;
}
