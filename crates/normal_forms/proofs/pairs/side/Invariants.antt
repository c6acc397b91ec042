use Rattle.std.proofs.Common.{◌≡◌, ◌<◌, ◌+◌, ◌-◌, ℕ, length}
use Rattle.std.specs.Prelude.{slice_index}
use Rattle.presentations.specs.declared.TheConstants.{LETTERS}
use Rattle.normal_forms.proofs.pairs.side.Given as goal

abbrev pub invariant-loop-i : goal.invariant-loop-i
invariant-loop-i l = record {
  long : length l.side ≡ LETTERS;
  so_far : (k : ℕ) → k < l.i
      → slice_index l.side k
      ≡ slice_index l.one.1 k + (slice_index l.other.0 k - slice_index l.one.0 k);
}
