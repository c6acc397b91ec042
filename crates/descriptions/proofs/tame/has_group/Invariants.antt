use Rattle.std.proofs.Common.{◌<◌, ℕ}
use Rattle.descriptions.specs.Tame.{IsTameBy}
use Rattle.descriptions.proofs.tame.has_group.Given as goal

abbrev pub invariant-loop-a : goal.invariant-loop-a
invariant-loop-a l = (a : ℕ) → a < l.a → (e : ℕ) → IsTameBy l.certified a e → ⊥
