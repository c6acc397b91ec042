use Rattle.std.proofs.Common.{◌<◌, ℕ}
use Rattle.std.specs.Prelude.{slice_index_or}
use Rattle.presentations.specs.declared.read.Relation.{Relation}
use Rattle.relations.specs.Presented.{HoldsIn}
use Rattle.relations.proofs.checking.hold.Given as goal

abbrev pub invariant-loop-relation : goal.invariant-loop-relation
invariant-loop-relation g l = (k : ℕ) (d : Relation) → k < l.relation-index
    → HoldsIn l.table l.elements (slice_index_or l.relations k d)
