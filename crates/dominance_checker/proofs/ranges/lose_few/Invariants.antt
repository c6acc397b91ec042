use Rattle.std.proofs.Common.{take}
use Rattle.std.specs.List.{All}
use Rattle.dominance_checker.specs.Passed.{LosesFew}
use Rattle.dominance_checker.proofs.ranges.lose_few.Given as goal

abbrev pub invariant-loop-k : goal.invariant-loop-k
invariant-loop-k l = All LosesFew (take l.k-index l.kept)
