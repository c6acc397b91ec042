use Rattle.std.proofs.Common.{◌≢◌, ◌<◌, ℕ, List}
use Rattle.std.specs.Prelude.{slice_index_or}
use Rattle.presentations.specs.declared.TheConstants.{LETTERS}
use Rattle.relations.specs.Bases.{Divides}
use Rattle.presented_forms.proofs.basis.is_left_least.Given as goal

abbrev pub invariant-loop-i : goal.invariant-loop-i
invariant-loop-i l = (j : ℕ) (d : List ℕ × List ℕ) → j < l.i → j ≢ l.k
    → Divides LETTERS (slice_index_or l.rules j d).0 (slice_index_or l.rules l.k d).0 → ⊥
