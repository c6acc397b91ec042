use Rattle.std.proofs.Common.{◌≡◌, ◌≤◌, ◌<◌, ℕ, length}
use Rattle.std.specs.Prelude.{slice_index}
use Rattle.presentations.specs.declared.TheConstants.{LETTERS}
use Rattle.label_players.proofs.wide.widened.Given as goal

abbrev pub invariant-loop-i : goal.invariant-loop-i
invariant-loop-i l = record {
  long : length l.wide ≡ LETTERS;
  so_far : (k : ℕ) → k < l.i → slice_index l.wide k ≡ slice_index l.word k;
  small : (k : ℕ) → k < l.i → slice_index l.wide k ≤ 65535;
}
