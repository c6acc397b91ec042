use Rattle.catalogue_command.proofs.KeyCounts.{AreFirst}
use Rattle.catalogue_command.proofs.counting.first_keys.Given as goal

abbrev pub invariant-loop-i : goal.invariant-loop-i
invariant-loop-i l = AreFirst l.words l.i
