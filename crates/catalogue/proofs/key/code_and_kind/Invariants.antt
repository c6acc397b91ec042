use Rattle.std.proofs.Common.{◌≡◌, ℕ, ◌<◌, length, get_or}
use Rattle.misere_theory.specs.Games.{digit}
use Rattle.catalogue.proofs.key.code_and_kind.Given as goal

abbrev pub invariant-loop-j : goal.invariant-loop-j
invariant-loop-j l = (length l.digits ≡ 18) × (get_or l.digits 17 0 ≡ l.heaps)
    × ((k : ℕ) → k < l.j → get_or l.digits k 0 ≡ digit l.code k)
