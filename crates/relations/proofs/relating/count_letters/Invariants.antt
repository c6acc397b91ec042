use Rattle.std.proofs.Common.{◌*◌, ◌≤◌}
use Rattle.relations.proofs.relating.count_letters.Given as goal

abbrev pub invariant-loop-i : goal.invariant-loop-i
invariant-loop-i l = l.count ≤ 255 * l.i
