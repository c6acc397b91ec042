use Rattle.std.proofs.Common.{◌<◌, ◌≤◌, ℕ}
use Rattle.dominance_checker.specs.Passed.{HasFar}
use Rattle.dominance_checker.proofs.ranges.have_far.Given as goal

abbrev pub invariant-loop-n : goal.invariant-loop-n
invariant-loop-n l = (m : ℕ) → l.from ≤ m → m < l.n → HasFar l.s l.ranks l.far m
