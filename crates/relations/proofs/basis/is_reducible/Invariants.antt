use Rattle.std.proofs.Common.{◌<◌, ℕ}
use Rattle.std.specs.Prelude.{slice_index_or}
use Rattle.presentations.specs.declared.read.Relation.{Relation}
use Rattle.relations.specs.Bases.{Divides}
use Rattle.relations.proofs.basis.is_reducible.Given as goal

abbrev pub invariant-loop-relation : goal.invariant-loop-relation
invariant-loop-relation l = (k : ℕ) (d : Relation) → k < l.relation-index
    → Divides l.letters (slice_index_or l.relations k d).left l.word → ⊥
