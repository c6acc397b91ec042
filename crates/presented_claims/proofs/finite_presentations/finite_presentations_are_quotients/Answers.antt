use Rattle.std.proofs.Common.{◌≡◌, true}
use Rattle.presented_claims.proofs.Finite.{quotient}
use Rattle.presented_claims.proofs.Heaps.{renamed}
use Rattle.presented_claims.specs.Claims.{has_word}
use Rattle.misere_theory.specs.Kinds.{IsHeapIn}
use Rattle.presented_claims.specs.Numbered.{numbered_claim}
use Rattle.presented_claims.proofs.finite_presentations.finite_presentations_are_quotients.Goals as goal

-- src/lib.rt:17:1
pub returns-clause-part : goal.returns-clause-part
returns-clause-part g c forms b right n = quotient c forms b right n

-- src/lib.rt:17:1
pub returns-clause-heaps : goal.returns-clause-heaps
returns-clause-heaps g M c forms b right n alike =
    renamed (λ h. has_word c h ≡ true) (IsHeapIn M) c.code (numbered_claim c forms b) alike
    (quotient c forms b right n)
