use Rattle.std.proofs.Common.{◌<◌, All, take}
use Rattle.descriptions.specs.Invariants.{AreThose, IsOf}
use Rattle.descriptions.proofs.choosing.those.Given as goal

abbrev pub invariant-loop-e : goal.invariant-loop-e
invariant-loop-e l = record {
  those : AreThose (IsOf l.certified l.part) (take l.e-index l.listing) l.found.items;
  within : All (λ e. e < l.certified.order) l.found.items;
}
