use Rattle.std.proofs.Common.{◌≡◌, ◌<◌, ℕ, length, get_or}
use Rattle.presentations.proofs.classes.numbers_below.Given as goal

abbrev pub invariant-loop-i : goal.invariant-loop-i
invariant-loop-i g l = record {
  length_is : length l.numbers.items ≡ l.i;
  numbers : (k : ℕ) → k < l.i → get_or l.numbers.items k 0 ≡ k;
}
