use Rattle.std.proofs.Common.{◌<◌, ℕ}
use Rattle.isomorphisms.specs.Maps.{IsNew}
use Rattle.isomorphisms.proofs.checking.are_new.Given as goal

abbrev pub invariant-loop-x : goal.invariant-loop-x
invariant-loop-x l = (k : ℕ) → k < l.x → IsNew l.map k
