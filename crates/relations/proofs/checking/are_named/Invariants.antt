use Rattle.std.proofs.Common.{◌≡◌, ◌<◌, ℕ, List, length}
use Rattle.std.specs.Prelude.{slice_index_or}
use Rattle.monoid_table.specs.Grids.{times_in}
use Rattle.presentations.specs.Tables.{product_at}
use Rattle.relations.specs.Presented.{vector_of}
use Rattle.relations.proofs.checking.are_named.Given as goal

abbrev pub invariant-loop-x : goal.invariant-loop-x
invariant-loop-x g l = (k : ℕ) (d : List ℕ) → k < l.x
    → product_at (times_in l.table) l.elements
    (vector_of (length l.elements) (slice_index_or l.words k d)) ≡ k
