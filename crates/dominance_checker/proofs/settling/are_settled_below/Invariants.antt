use Rattle.std.proofs.Common.{take}
use Rattle.std.specs.List.{All}
use Rattle.dominance_checker.specs.States.{IsSettledBelow}
use Rattle.dominance_checker.proofs.settling.are_settled_below.Given as goal

abbrev pub invariant-loop-k : goal.invariant-loop-k
invariant-loop-k l = All (IsSettledBelow l.u l.sides l.end) (take l.k-index l.kept)
