use Rattle.std.proofs.Common.{◌<◌, ◌≤◌, ℕ}
use Rattle.dominance_checker.specs.Elements.{HasTight}
use Rattle.dominance_checker.proofs.elements.have_tight.Given as goal

abbrev pub invariant-loop-m : goal.invariant-loop-m
invariant-loop-m l = (i : ℕ) → 1 ≤ i → i < l.m → HasTight l.s l.ranks i
