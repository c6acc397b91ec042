use Rattle.std.proofs.Common.{◌≡◌, ◌<◌, ℕ, Some, None, get_or}
use Rattle.checker.specs.JobViews.{JobView}
use Rattle.desk.proofs.cores.find.Given as goal

abbrev pub invariant-loop-i : goal.invariant-loop-i
invariant-loop-i g l = (k : ℕ) (core : JobView) → k < l.i → get_or l.cores.items k None ≡ Some core
    → core.bytes ≡ l.bytes → core.limit ≡ l.limit → ⊥
