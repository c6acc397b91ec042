use Rattle.std.proofs.Common.{◌≢◌, ◌<◌, ℕ}
use Rattle.std.specs.Prelude.{slice_index_or}
use Rattle.presentations.specs.declared.read.Relation.{Relation}
use Rattle.relations.specs.Bases.{Divides}
use Rattle.relations.proofs.basis.is_minimal.Given as goal

abbrev pub invariant-loop-k : goal.invariant-loop-k
invariant-loop-k l = (k : ℕ) (d : Relation) → k < l.k → l.i ≢ k
    → Divides l.letters (slice_index_or l.relations l.i d).left (slice_index_or l.relations k d).left
    → ⊥
