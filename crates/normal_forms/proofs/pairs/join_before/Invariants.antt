use Rattle.std.proofs.Common.{◌<◌, ℕ, List}
use Rattle.std.specs.Prelude.{slice_index_or}
use Rattle.presentations.specs.declared.TheConstants.{LETTERS}
use Rattle.normal_forms.specs.Reductions.{Join, side_of}
use Rattle.normal_forms.proofs.pairs.join_before.Given as goal

abbrev pub invariant-loop-k : goal.invariant-loop-k
invariant-loop-k g l = (j : ℕ) (d : List ℕ × List ℕ) → j < l.k
    → Join LETTERS l.rules (side_of (slice_index_or l.rules l.i d) (slice_index_or l.rules j d))
    (side_of (slice_index_or l.rules j d) (slice_index_or l.rules l.i d))
