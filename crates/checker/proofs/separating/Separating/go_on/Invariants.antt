use Rattle.std.proofs.Common.{ℕ, List}
use Rattle.check_machine.specs.Turns.{Runs}
use Rattle.check_machine.specs.Turns.Phase.{Separating as AtSeparating}
use Rattle.checker.proofs.separating.Separating.go_on.Given as goal

abbrev pub invariant-pairs : goal.invariant-pairs
invariant-pairs g l =
    (bytes : List ℕ) (limit : ℕ)
    → Runs bytes limit (AtSeparating l.fn.self) l.initial.left l.left (AtSeparating l.self)

abbrev pub decreases-pairs : goal.decreases-pairs
decreases-pairs g l = l.left
