use Rattle.std.proofs.Common.{◌≡◌, ◌<◌, ℕ, List, length}
use Rattle.std.specs.Prelude.{slice_index_or}
use Rattle.presentations.specs.declared.TheConstants.{LETTERS}
use Rattle.relations.specs.Bases.{Precedes}
use Rattle.normal_forms.proofs.pairs.are_oriented.Given as goal

abbrev pub invariant-loop-k : goal.invariant-loop-k
invariant-loop-k l = record {
  long : (j : ℕ) (d : List ℕ × List ℕ) → j < l.k
      → (length (slice_index_or l.rules j d).0 ≡ LETTERS)
      × (length (slice_index_or l.rules j d).1 ≡ LETTERS);
  falls : (j : ℕ) (d : List ℕ × List ℕ) → j < l.k
      → Precedes LETTERS (slice_index_or l.rules j d).1 (slice_index_or l.rules j d).0;
}
