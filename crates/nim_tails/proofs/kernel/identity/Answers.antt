use Rattle.std.proofs.Common.{sym, subst}
use Rattle.misere_theory.specs.Certificates.{claim_of}
use Rattle.nim_tails.specs.NormalTails.{IsRegularKernel}
use Rattle.nim_tails.proofs.Groups.{regular}
use Rattle.nim_tails.proofs.kernel.identity.Goals as goal

pub returns-in-None : goal.returns-in-None
returns-in-None c =
    let d = c.args.certified.now in
    let m = c.cert.ensures.accepted.represents.monoid in
    subst (IsRegularKernel (claim_of d)) (sym c.times.ensures.value)
    (regular (claim_of d) m c.lowest-low.result c.lowest-low.ensures c.in-None.ensures)
