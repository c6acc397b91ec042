use Rattle.std.proofs.Common.{◌≡◌, ◌<◌, ℕ}
use Rattle.std.specs.Prelude.{slice_index, slice_index_or}
use Rattle.presentations.specs.declared.read.Relation.{Relation}
use Rattle.presentations.specs.Boxes.{place_of}
use Rattle.presentations.specs.Words.{vector_on}
use Rattle.presentations.specs.Merging.{letters_in}
use Rattle.presentations.proofs.classes.relation_gap.Given as goal

abbrev pub invariant-loop-i : goal.invariant-loop-i
invariant-loop-i g l = (k : ℕ) (d : Relation) → k < l.i
    → slice_index l.merging.parents
    (place_of l.merging.axes
    (vector_on (letters_in l.merging.axes) (slice_index_or l.merging.relations k d).left))
    ≡ slice_index l.merging.parents
    (place_of l.merging.axes
    (vector_on (letters_in l.merging.axes) (slice_index_or l.merging.relations k d).right))
