use Rattle.std.proofs.Common.{◌≡◌, ℕ, ◌<◌, true, false}
use Rattle.std.specs.FinSet as set
use Rattle.checker.proofs.elements.common.Given as goal

abbrev pub invariant-loop-y : goal.invariant-loop-y
invariant-loop-y g l = (x : ℕ) → x < l.y → set.contains l.a x ≡ true → set.contains l.b x ≡ false
