use Rattle.std.proofs.Common.{◌≡◌, ◌<◌, ◌*◌, ◌≤◌, ℕ}
use Rattle.std.specs.Prelude.{slice_index}
use Rattle.relations.specs.Bases.{letter_count}
use Rattle.relations.proofs.rewriting.comes_before.Given as goal

abbrev pub invariant-loop-i : goal.invariant-loop-i
invariant-loop-i l = record {
  less : l.less ≡ letter_count l.i l.v;
  more : l.more ≡ letter_count l.i l.w;
  less_small : l.less ≤ 255 * l.i;
  more_small : l.more ≤ 255 * l.i;
}

abbrev pub invariant-loop-i-2 : goal.invariant-loop-i-2
invariant-loop-i-2 l = (k : ℕ) → k < l.i → slice_index l.v k ≡ slice_index l.w k
