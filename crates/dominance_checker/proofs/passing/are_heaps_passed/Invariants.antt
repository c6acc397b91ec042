use Rattle.std.proofs.Common.{◌<◌, ◌≤◌, ℕ}
use Rattle.dominance_checker.specs.Passed.{IsHeapPassed}
use Rattle.dominance_checker.proofs.passing.are_heaps_passed.Given as goal

abbrev pub invariant-loop-n : goal.invariant-loop-n
invariant-loop-n g l =
    (m : ℕ) → 1 ≤ m → m < l.n → IsHeapPassed l.code l.s l.ranks l.kinds l.kept l.e m
