use Rattle.std.proofs.Common.{◌≡◌, Bool, ℕ, false}
use Rattle.presented_claims.specs.Claims.{in_portion}
use Rattle.class_tables.specs.Classes.{word_at}
use Rattle.class_tables.proofs.Pushed.{AreSoFar}
use Rattle.class_tables.proofs.tables.bits_of.Given as goal

abbrev pub invariant-loop-k : goal.invariant-loop-k
invariant-loop-k g l = AreSoFar (λ j b. b ≡ in_portion l.p (word_at l.list j)) l.k false l.bits.items
