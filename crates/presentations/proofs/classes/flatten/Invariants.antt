use Rattle.std.proofs.Common.{◌≡◌, ◌<◌, ℕ}
use Rattle.std.specs.Prelude.{slice_index}
use Rattle.presentations.specs.Merging.{Shrinks}
use Rattle.presentations.proofs.classes.flatten.Given as goal

abbrev pub invariant-loop-i : goal.invariant-loop-i
invariant-loop-i g l = record {
  kept : Shrinks l.initial.merging l.merging;
  firsts : (u : ℕ) → u < l.i → slice_index l.merging.parents (slice_index l.merging.parents u)
      ≡ slice_index l.merging.parents u;
}
