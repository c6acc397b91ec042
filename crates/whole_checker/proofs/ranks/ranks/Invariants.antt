use Rattle.whole_checker.proofs.Listed.{AreRanks}
use Rattle.whole_checker.proofs.ranks.ranks.Given as goal

abbrev pub invariant-loop-i : goal.invariant-loop-i
invariant-loop-i g l = AreRanks l.text l.i l.all.items
