use Rattle.std.proofs.Common.{◌≢◌, ◌<◌, ℕ, List}
use Rattle.std.specs.Prelude.{slice_index_or}
use Rattle.relations.proofs.listing.has_word.Given as goal

abbrev pub invariant-loop-other : goal.invariant-loop-other
invariant-loop-other l = (k : ℕ) (d : List ℕ) → k < l.other-index → slice_index_or l.words k d ≢ l.word
