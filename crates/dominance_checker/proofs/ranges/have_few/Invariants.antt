use Rattle.std.proofs.Common.{◌<◌, ◌≤◌, ℕ}
use Rattle.dominance_checker.specs.Passed.{HasFew}
use Rattle.dominance_checker.proofs.ranges.have_few.Given as goal

abbrev pub invariant-loop-n : goal.invariant-loop-n
invariant-loop-n l = (m : ℕ) → 1 ≤ m → m < l.n → HasFew l.s l.ranks l.few m
