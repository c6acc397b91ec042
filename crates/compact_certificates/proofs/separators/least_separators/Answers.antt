use Rattle.std.proofs.Common.{◌≡◌, ℕ, List, ◌+◌, ◌/◌, refl, sym, subst, arith}
use Rattle.std.proofs.lemmas.Result.{IfOk-weaker}
use Rattle.compact_certificates.specs.Lanes.{AreContexts, claim_in}
use Rattle.compact_certificates.proofs.separators.least_separators.Goals as goal

pub returns : goal.returns
returns g c =
    let claim = claim_in c.args.order c.args.rows.now c.args.inside.now in
    let size : (c.args.order + 63) / 64 ≡ c.div_ceil.result = omega arith in
    let known : AreContexts claim c.div_ceil.result c.deref.result.now =
    subst (λ (ls : List ℕ). AreContexts claim c.div_ceil.result ls) (sym c.deref.ensures.value)
    (subst (λ n. AreContexts claim n c.in_ok-lanes.lanes.items) size c.in_ok-lanes.ensures) in
    IfOk-weaker c.told_separators.result _ _ (λ found h. h claim known refl)
    c.told_separators.ensures
