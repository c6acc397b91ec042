use Rattle.std.proofs.Common.{◌≢◌, ◌<◌, ℕ}
use Rattle.std.specs.Prelude.{length, slice_index_or}
use Rattle.presentations.specs.declared.read.Relation.{Relation}
use Rattle.relations.specs.Bases.{Divides}
use Rattle.relations.proofs.basis.are_minimal.Given as goal

abbrev pub invariant-loop-i : goal.invariant-loop-i
invariant-loop-i l = (i k : ℕ) (d : Relation) → i < l.i → k < length l.relations → i ≢ k
    → Divides l.letters (slice_index_or l.relations i d).left (slice_index_or l.relations k d).left
    → ⊥
