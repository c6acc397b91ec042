use Rattle.std.proofs.Common.{◌≡◌, ◌<◌, ℕ, length}
use Rattle.std.specs.Prelude.{slice_index}
use Rattle.presentations.specs.declared.TheConstants.{LETTERS}
use Rattle.presented_claims.specs.Claims.{cycled}
use Rattle.label_players.proofs.portion.cycled_word.Given as goal

abbrev pub invariant-loop-i : goal.invariant-loop-i
invariant-loop-i l = record {
  long : length l.made ≡ LETTERS;
  so_far : (k : ℕ) → k < l.i → slice_index l.made k ≡ slice_index (cycled l.cycles l.word) k;
}
