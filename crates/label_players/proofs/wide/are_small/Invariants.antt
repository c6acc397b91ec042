use Rattle.std.proofs.Common.{◌≤◌, ◌<◌, ℕ}
use Rattle.std.specs.Prelude.{slice_index}
use Rattle.label_players.specs.declared.wide.TheConstants.{LARGEST_EXPONENT}
use Rattle.label_players.proofs.wide.are_small.Given as goal

abbrev pub invariant-loop-i : goal.invariant-loop-i
invariant-loop-i l = (k : ℕ) → k < l.i → slice_index l.word k ≤ LARGEST_EXPONENT
