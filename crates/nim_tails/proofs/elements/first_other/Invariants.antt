use Rattle.std.proofs.Common.{◌≤◌, ℕ}
use Rattle.nim_tails.specs.Tails.{AgreesWith}
use Rattle.nim_tails.proofs.elements.first_other.Given as goal

abbrev pub invariant-loop-before : goal.invariant-loop-before
invariant-loop-before l = (n : ℕ) → 1 ≤ n → n ≤ l.before → AgreesWith l.certified l.values l.sums n
