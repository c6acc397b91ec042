use Rattle.std.proofs.Common.{◌<◌, ℕ}
use Rattle.std.specs.Prelude.{Contains, slice_index_or}
use Rattle.presentations.specs.declared.read.Relation.{Relation}
use Rattle.relations.proofs.listing.lead_to.Given as goal

abbrev pub invariant-loop-relation : goal.invariant-loop-relation
invariant-loop-relation l = (k : ℕ) (d : Relation) → k < l.relation-index
    → (Contains l.words (slice_index_or l.relations k d).left → ⊥)
    × Contains l.words (slice_index_or l.relations k d).right
