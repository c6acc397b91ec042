use Rattle.std.proofs.Common.{◌<◌, ℕ}
use Rattle.nim_tails.specs.Tails.{IsOnlyZero}
use Rattle.nim_tails.proofs.elements.first_zero.Given as goal

abbrev pub invariant-loop-x : goal.invariant-loop-x
invariant-loop-x l = (k : ℕ) → k < l.x → IsOnlyZero l.certified l.sums l.one k
