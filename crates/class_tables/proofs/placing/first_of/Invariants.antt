use Rattle.std.proofs.Common.{◌≢◌, ℕ, ◌<◌}
use Rattle.class_tables.specs.Classes.{word_at}
use Rattle.class_tables.proofs.placing.first_of.Given as goal

abbrev pub invariant-loop-k : goal.invariant-loop-k
invariant-loop-k g l = (j : ℕ) → j < l.k → word_at l.list j ≢ l.word
