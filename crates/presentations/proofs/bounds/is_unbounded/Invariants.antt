use Rattle.std.proofs.Common.{◌<◌, ℕ}
use Rattle.std.specs.Prelude.{IsTrue}
use Rattle.presentations.specs.Words.{occurs}
use Rattle.presentations.specs.Powers.{HasLeastPower}
use Rattle.presentations.proofs.bounds.is_unbounded.Given as goal

abbrev pub invariant-loop-letter : goal.invariant-loop-letter
invariant-loop-letter l = (k : ℕ) → k < l.letter → IsTrue (occurs l.relations k)
    → HasLeastPower l.relations k
