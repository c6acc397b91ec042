use Rattle.std.proofs.Common.{◌≡◌, length}
use Rattle.guesses.proofs.guess.marks.Given as goal

abbrev pub invariant-loop-element : goal.invariant-loop-element
invariant-loop-element g l = length l.in_portion.items ≡ l.element
