use Rattle.std.proofs.Common.{◌<◌, ℕ}
use Rattle.descriptions.specs.Tame.{IsTameBy}
use Rattle.descriptions.proofs.tame.is_tame_with.Given as goal

abbrev pub invariant-loop-e : goal.invariant-loop-e
invariant-loop-e l = (e : ℕ) → e < l.e → IsTameBy l.certified l.a e → ⊥
