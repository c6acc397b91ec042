use Rattle.std.proofs.Common.{◌<◌, ℕ}
use Rattle.std.specs.Prelude.{slice_index_or}
use Rattle.presented_forms.specs.Shown.{IsShownLeast}
use Rattle.presented_forms.proofs.cycles.are_least_cycles.Given as goal

abbrev pub invariant-loop-i : goal.invariant-loop-i
invariant-loop-i l = (k : ℕ) (d : ℕ × ℕ) → k < l.i → IsShownLeast (slice_index_or l.cycles k d) l.words k
