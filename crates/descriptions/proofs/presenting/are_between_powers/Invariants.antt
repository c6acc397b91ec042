use Rattle.std.proofs.Common.{◌<◌, ℕ}
use Rattle.std.specs.Prelude.{slice_index_or}
use Rattle.presentations.specs.declared.read.Relation.{Relation}
use Rattle.descriptions.specs.Described.{IsBetweenPowers}
use Rattle.descriptions.proofs.presenting.are_between_powers.Given as goal

abbrev pub invariant-loop-relation : goal.invariant-loop-relation
invariant-loop-relation l = (k : ℕ) (d : Relation) → k < l.relation-index
    → IsBetweenPowers (slice_index_or l.relations k d)
