-- Two words that are two elements of a monoid in which relations hold aren't related by these.
use Rattle.std.proofs.Common.{◌≡◌, ◌<◌, ℕ, List, length}
use Rattle.std.specs.Prelude.{All}
use Rattle.misere_theory.specs.Quotients.{Monoid}
use Rattle.monoid_table.specs.Grids.{Grid, times_in}
use Rattle.presentations.specs.declared.read.Relation.{Relation}
use Rattle.presentations.specs.Tables.{product_at}
use Rattle.relations.specs.Presented.{vector_of, pairs_of, AreRelatedWords, HoldsIn}
use Rattle.relations.proofs.Shown.{pairs-hold}
use Rattle.relations.proofs.WordLaws.{value-alike}

pub related-same : (table : Grid) (elements : List ℕ) (relations : List Relation) (v w : List ℕ)
    → Monoid table.order (times_in table)
    → All (λ e. e < table.order) elements
    → All (HoldsIn table elements) relations
    → AreRelatedWords (length elements) relations v w
    → product_at (times_in table) elements (vector_of (length elements) v)
    ≡ product_at (times_in table) elements (vector_of (length elements) w)
related-same table elements relations v w m within hold r =
    let n = length elements in
    (value-alike table elements (pairs_of n relations) m within
    (pairs-hold table elements relations hold) (vector_of n v) (vector_of n w) r).same
