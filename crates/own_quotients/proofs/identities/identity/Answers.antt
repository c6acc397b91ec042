use Rattle.std.proofs.Common.{below_more}
use Rattle.own_quotients.proofs.identities.identity.Goals as goal

pub loop-e-preserved : goal.loop-e-preserved
loop-e-preserved g c =
    below_more _ _ c.loop-e.invariant
    (λ is. let yes = c.if-is_identity.ensures.1 is in let not = c.if-is_identity.false in absurd cc)
