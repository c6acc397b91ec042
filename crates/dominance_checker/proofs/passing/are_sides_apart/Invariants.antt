use Rattle.std.proofs.Common.{take}
use Rattle.std.specs.List.{All}
use Rattle.dominance_checker.specs.Passed.{IsSideApart}
use Rattle.dominance_checker.proofs.passing.are_sides_apart.Given as goal

abbrev pub invariant-loop-v : goal.invariant-loop-v
invariant-loop-v l = All (IsSideApart l.u l.most) (take l.v-index l.sides)
