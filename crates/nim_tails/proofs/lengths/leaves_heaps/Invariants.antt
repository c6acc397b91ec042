use Rattle.std.proofs.Common.{◌<◌, ◌≤◌, ℕ, IsBitSet}
use Rattle.misere_theory.specs.Games.{digit}
use Rattle.nim_tails.proofs.lengths.leaves_heaps.Given as goal

abbrev pub invariant-loop-j : goal.invariant-loop-j
invariant-loop-j l = (i : ℕ) → i < l.j → ((b : ℕ) × (1 ≤ b) × (b ≤ 3) × IsBitSet (digit l.code i) b) → ⊥
