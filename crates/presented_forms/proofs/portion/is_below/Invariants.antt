use Rattle.std.proofs.Common.{◌+◌, ◌<◌, ℕ}
use Rattle.std.specs.Prelude.{slice_index, slice_index_or}
use Rattle.presented_forms.proofs.portion.is_below.Given as goal

abbrev pub invariant-loop-i : goal.invariant-loop-i
invariant-loop-i l = (j : ℕ) (d : ℕ × ℕ) → j < l.i
    → slice_index l.word j < (slice_index_or l.cycles j d).0 + (slice_index_or l.cycles j d).1
