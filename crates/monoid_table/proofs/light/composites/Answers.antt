use Rattle.std.proofs.Common.{◌≡◌, ℕ, zero, suc, true, false, get_or, replicate}
use Rattle.misere_theory.specs.declared.TheConstants.{LARGEST_ORDER}
use Rattle.monoid_table.proofs.light.composites.Goals as goal

none-marked : (n k : ℕ) → get_or (replicate n false) k false ≡ true → ⊥
none-marked zero k e = absurd (cc)
none-marked (suc n) zero e = absurd (cc)
none-marked (suc n) (suc k) e = none-marked n k e

pub loop-x-init : goal.loop-x-init
loop-x-init c = λ k marked. absurd (none-marked LARGEST_ORDER k marked)
