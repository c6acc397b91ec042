use Rattle.std.proofs.Common.{◌≡◌, ◌<◌, ◌+◌, ◌-◌, ℕ, length}
use Rattle.std.specs.Prelude.{slice_index}
use Rattle.presentations.specs.declared.TheConstants.{LETTERS}
use Rattle.label_players.proofs.reducing.replaced.Given as goal

abbrev pub invariant-loop-i : goal.invariant-loop-i
invariant-loop-i l = record {
  long : length l.changed ≡ LETTERS;
  so_far : (k : ℕ) → k < l.i
      → slice_index l.changed k
      ≡ slice_index l.word k - slice_index l.rule.0 k + slice_index l.rule.1 k;
}
