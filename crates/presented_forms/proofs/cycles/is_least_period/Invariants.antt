use Rattle.std.proofs.Common.{◌<◌, ℕ}
use Rattle.presented_forms.specs.Shown.{Breaks}
use Rattle.presented_forms.proofs.cycles.is_least_period.Given as goal

abbrev pub invariant-loop-more : goal.invariant-loop-more
invariant-loop-more l = (p : ℕ) → 0 < p → p < l.more → Breaks l.cycle l.words l.i l.cycle.0 p
