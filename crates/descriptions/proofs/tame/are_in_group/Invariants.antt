use Rattle.std.proofs.Common.{◌≡◌, ◌<◌, ℕ, true}
use Rattle.descriptions.specs.Tame.{is_in_group}
use Rattle.descriptions.proofs.tame.are_in_group.Given as goal

abbrev pub invariant-loop-x : goal.invariant-loop-x
invariant-loop-x l = (x : ℕ) → x < l.x → is_in_group l.table l.a l.e x ≡ true
