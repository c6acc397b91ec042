use Rattle.std.proofs.Common.{◌<◌, ◌≤◌, ℕ, List}
use Rattle.std.specs.Prelude.{slice_index_or}
use Rattle.presentations.specs.declared.TheConstants.{LETTERS}
use Rattle.relations.specs.Bases.{letter_count}
use Rattle.normal_forms.specs.declared.TheConstants.{MOST_LEFT_LETTERS}
use Rattle.normal_forms.proofs.pairs.are_short.Given as goal

abbrev pub invariant-loop-k : goal.invariant-loop-k
invariant-loop-k l = (j : ℕ) (d : List ℕ × List ℕ) → j < l.k
    → letter_count LETTERS (slice_index_or l.rules j d).0 ≤ MOST_LEFT_LETTERS
