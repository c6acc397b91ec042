use Rattle.std.proofs.Common.{◌≡◌, ℕ, ◌<◌, length, get_or}
use Rattle.acceptance.proofs.element_sets_tests.the_widest_translates.Given as goal

abbrev pub invariant-loop-x : goal.invariant-loop-x
invariant-loop-x l = record {
  length_is : length l.row.items ≡ l.x;
  small : (i : ℕ) → i < l.x → get_or l.row.items i 0 < 4096;
}
