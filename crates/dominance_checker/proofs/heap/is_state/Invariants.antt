use Rattle.std.proofs.Common.{◌≡◌, ◌<◌, true}
use Rattle.dominance.specs.Tested.{Change}
use Rattle.dominance_checker.specs.States.{has_change, HasSide}
use Rattle.dominance_checker.proofs.heap.is_state.Given as goal

abbrev pub invariant-loop-lost : goal.invariant-loop-lost
invariant-loop-lost l =
    (x : Change) → x.1 < l.lost → has_change l.k x ≡ true → HasSide l.u l.sides x
