use Rattle.std.proofs.Common.{◌≡◌, ◌≤◌, ◌*◌}
use Rattle.relations.specs.Bases.{letter_count}
use Rattle.normal_forms.proofs.reducing.letter_count.Given as goal

abbrev pub invariant-loop-i : goal.invariant-loop-i
invariant-loop-i l = record {
  count : l.count ≡ letter_count l.i l.word;
  small : l.count ≤ 65535 * l.i;
}
