use Rattle.std.proofs.Common.{◌<◌, ℕ, List}
use Rattle.std.specs.Prelude.{slice_index_or}
use Rattle.relations.specs.Bases.{IsReducible, LeadsOn}
use Rattle.relations.proofs.basis.are_irreducible.Given as goal

abbrev pub invariant-loop-word : goal.invariant-loop-word
invariant-loop-word l = record {
  listed : (k : ℕ) (d : List ℕ) → k < l.word-index
      → IsReducible l.letters l.relations (slice_index_or l.words k d) → ⊥;
  on : (k : ℕ) (d : List ℕ) → k < l.word-index → (i : ℕ) → i < l.letters
      → LeadsOn l.letters l.words l.relations (slice_index_or l.words k d) i;
}
