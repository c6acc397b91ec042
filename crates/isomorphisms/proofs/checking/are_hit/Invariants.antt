use Rattle.std.proofs.Common.{◌<◌, ℕ}
use Rattle.isomorphisms.specs.Maps.{IsHit}
use Rattle.isomorphisms.proofs.checking.are_hit.Given as goal

abbrev pub invariant-loop-y : goal.invariant-loop-y
invariant-loop-y l = (k : ℕ) → k < l.y → IsHit l.map k
