use Rattle.std.proofs.Common.{◌<◌, ◌≤◌, ℕ}
use Rattle.dominance_checker.specs.Elements.{HasLasting}
use Rattle.dominance_checker.proofs.elements.have_lasting.Given as goal

abbrev pub invariant-loop-m : goal.invariant-loop-m
invariant-loop-m l = (i : ℕ) → l.low ≤ i → i < l.m → HasLasting l.s l.ranks i
