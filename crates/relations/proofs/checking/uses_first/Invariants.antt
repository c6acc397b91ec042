use Rattle.std.proofs.Common.{◌≡◌, ◌<◌, ℕ}
use Rattle.std.specs.Prelude.{nat_lt}
use Rattle.presentations.specs.Words.{occurs}
use Rattle.relations.proofs.checking.uses_first.Given as goal

abbrev pub invariant-loop-letter : goal.invariant-loop-letter
invariant-loop-letter l = (k : ℕ) → k < l.letter → occurs l.relations k ≡ nat_lt k l.letters
