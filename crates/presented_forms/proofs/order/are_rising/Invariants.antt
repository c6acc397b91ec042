use Rattle.std.proofs.Common.{◌-◌, ◌<◌, ℕ, List}
use Rattle.std.specs.Prelude.{slice_index_or}
use Rattle.presentations.specs.declared.TheConstants.{LETTERS}
use Rattle.relations.specs.Bases.{Precedes}
use Rattle.presented_forms.proofs.order.are_rising.Given as goal

abbrev pub invariant-loop-k : goal.invariant-loop-k
invariant-loop-k l = (j : ℕ) (d : List ℕ) → 0 < j → j < l.k
    → Precedes LETTERS (slice_index_or l.words (j - 1) d) (slice_index_or l.words j d)
