use Rattle.std.proofs.Common.{◌≡◌, ℕ, None, length}
use Rattle.std.specs.Prelude.{slice_index_or}
use Rattle.isomorphisms.proofs.forcing.nothing_known.Given as goal

abbrev pub invariant-loop-k : goal.invariant-loop-k
invariant-loop-k g l = record {
  long : length l.map.items ≡ l._k;
  nothing : (k : ℕ) → slice_index_or l.map.items k None ≡ None;
}
