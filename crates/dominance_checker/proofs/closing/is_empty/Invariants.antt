use Rattle.std.proofs.Common.{◌≡◌, ◌<◌, false}
use Rattle.dominance.specs.Tested.{Change}
use Rattle.dominance_checker.specs.States.{has_change}
use Rattle.dominance_checker.proofs.closing.is_empty.Given as goal

abbrev pub invariant-loop-lost : goal.invariant-loop-lost
invariant-loop-lost l = (x : Change) → x.1 < l.lost → has_change l.k x ≡ false
