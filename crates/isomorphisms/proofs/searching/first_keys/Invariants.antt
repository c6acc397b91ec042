use Rattle.isomorphisms.proofs.KeyLemmas.{AreFirst}
use Rattle.isomorphisms.proofs.searching.first_keys.Given as goal

abbrev pub invariant-loop-i : goal.invariant-loop-i
invariant-loop-i l = AreFirst l.words l.i
