use Rattle.std.proofs.Common.{◌<◌, ℕ}
use Rattle.descriptions.specs.Structure.{LiesBetween}
use Rattle.descriptions.proofs.components.has_between.Given as goal

abbrev pub invariant-loop-g : goal.invariant-loop-g
invariant-loop-g l = (g : ℕ) → g < l.g → LiesBetween l.table l.e l.f g → ⊥
