use Rattle.std.proofs.Common.{◌<◌, ℕ}
use Rattle.presented_forms.specs.Only.{WordsRepeat}
use Rattle.presented_forms.proofs.list.is_least_from.Given as goal

abbrev pub invariant-loop-more : goal.invariant-loop-more
invariant-loop-more g l = (p : ℕ) → 0 < p → p < l.more → WordsRepeat l.text l.start p → ⊥
