-- Laws of words as vectors: each relation is one of the pairs.
-- By induction on the relations.
use Rattle.std.proofs.Common.{ℕ, zero, suc, ◌<◌, List, [], ◌∷◌, length, refl, arith}
use Rattle.std.specs.Prelude.{slice_index_or, Contains}
use Rattle.presentations.specs.declared.read.Relation.{Relation}
use Rattle.presentations.specs.Words.{vector_on, pairs_on}

pub pair-of : (letters : List ℕ) (relations : List Relation) (k : ℕ) (d : Relation)
    → k < length relations
    → Contains (pairs_on letters relations) (
      vector_on letters (slice_index_or relations k d).left,
      vector_on letters (slice_index_or relations k d).right,
    )
pair-of letters [] k d lt = absurd (omega arith)
pair-of letters (s ∷ relations) zero d lt = (0, omega arith, refl)
pair-of letters (s ∷ relations) (suc k) d lt =
    let later = pair-of letters relations k d (omega arith) in
    (suc later.0, omega (arith, later.1), later.2)
