use Rattle.certificate_lines.proofs.KeyTests.{AreFirst}
use Rattle.certificate_lines.proofs.keys.firsts.Given as goal

abbrev pub invariant-loop-i : goal.invariant-loop-i
invariant-loop-i l = AreFirst l.words l.i
