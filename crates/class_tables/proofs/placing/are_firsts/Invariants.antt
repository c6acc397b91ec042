use Rattle.std.proofs.Common.{◌≡◌, ℕ, ◌<◌}
use Rattle.presented_tables.specs.Elements.{place}
use Rattle.class_tables.specs.Classes.{word_at}
use Rattle.class_tables.proofs.placing.are_firsts.Given as goal

abbrev pub invariant-loop-k : goal.invariant-loop-k
invariant-loop-k g l = (j : ℕ) → j < l.k → place l.list (word_at l.list j) ≡ j
