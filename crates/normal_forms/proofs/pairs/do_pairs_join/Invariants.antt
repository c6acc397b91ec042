use Rattle.std.proofs.Common.{◌<◌, ℕ, List}
use Rattle.std.specs.Prelude.{slice_index_or}
use Rattle.presentations.specs.declared.TheConstants.{LETTERS}
use Rattle.normal_forms.specs.Reductions.{Join, side_of}
use Rattle.normal_forms.proofs.pairs.do_pairs_join.Given as goal

abbrev pub invariant-loop-i : goal.invariant-loop-i
invariant-loop-i g l = (j k : ℕ) (d : List ℕ × List ℕ) → j < l.i → k < j
    → Join LETTERS l.rules (side_of (slice_index_or l.rules j d) (slice_index_or l.rules k d))
    (side_of (slice_index_or l.rules k d) (slice_index_or l.rules j d))
