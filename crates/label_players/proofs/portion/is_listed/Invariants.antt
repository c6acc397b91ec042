use Rattle.std.proofs.Common.{◌≡◌, ◌<◌, ℕ, List, false}
use Rattle.std.specs.Prelude.{slice_index_or, nat_eq}
use Rattle.std.specs.Cmp.Lexicographic.{pointwise}
use Rattle.label_players.proofs.portion.is_listed.Given as goal

abbrev pub invariant-loop-i : goal.invariant-loop-i
invariant-loop-i l = (k : ℕ) (d : List ℕ) → k < l.i
    → pointwise nat_eq l.word (slice_index_or l.list k d) ≡ false
