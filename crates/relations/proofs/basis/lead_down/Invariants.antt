use Rattle.std.proofs.Common.{◌<◌, ℕ}
use Rattle.std.specs.Prelude.{slice_index_or}
use Rattle.presentations.specs.declared.read.Relation.{Relation}
use Rattle.relations.specs.Bases.{IsReducible, Precedes}
use Rattle.relations.proofs.basis.lead_down.Given as goal

abbrev pub invariant-loop-relation : goal.invariant-loop-relation
invariant-loop-relation l = record {
  falls : (k : ℕ) (d : Relation) → k < l.relation-index
      → Precedes l.letters (slice_index_or l.relations k d).right (slice_index_or l.relations k d).left;
  irreducible : (k : ℕ) (d : Relation) → k < l.relation-index
      → IsReducible l.letters l.relations (slice_index_or l.relations k d).right → ⊥;
}
