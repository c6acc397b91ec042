use Rattle.std.proofs.Common.{◌<◌, ℕ, List}
use Rattle.std.specs.Prelude.{slice_index_or}
use Rattle.normal_forms.specs.Forms.{IsIn}
use Rattle.presented_tables.proofs.within.are_in.Given as goal

abbrev pub invariant-loop-k : goal.invariant-loop-k
invariant-loop-k l = (j : ℕ) (d : List ℕ × List ℕ) → j < l.k
    → IsIn l.letters (slice_index_or l.rules j d).0 × IsIn l.letters (slice_index_or l.rules j d).1
