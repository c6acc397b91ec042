use Rattle.std.proofs.Common.{◌<◌, ℕ}
use Rattle.own_quotients.specs.Tables.{IsIdentity}
use Rattle.own_quotients.proofs.identities.identity.Given as goal

abbrev pub invariant-loop-e : goal.invariant-loop-e
invariant-loop-e g l = (k : ℕ) → k < l.e → IsIdentity l.table k → ⊥
