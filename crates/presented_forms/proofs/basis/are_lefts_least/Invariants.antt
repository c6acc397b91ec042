use Rattle.std.proofs.Common.{◌≢◌, ◌<◌, ℕ, List, length}
use Rattle.std.specs.Prelude.{slice_index_or}
use Rattle.presentations.specs.declared.TheConstants.{LETTERS}
use Rattle.relations.specs.Bases.{Divides}
use Rattle.presented_forms.proofs.basis.are_lefts_least.Given as goal

abbrev pub invariant-loop-k : goal.invariant-loop-k
invariant-loop-k l = (j : ℕ) → j < l.k → (i : ℕ) (d : List ℕ × List ℕ) → i < length l.rules → i ≢ j
    → Divides LETTERS (slice_index_or l.rules i d).0 (slice_index_or l.rules j d).0 → ⊥
