use Rattle.std.proofs.Common.{length, ap, arith}
use Rattle.misere_theory.specs.Certificates.{Certificate}
use Rattle.isomorphisms.proofs.searching.key_at.Goals as goal

pub key_in-requires-clause-e_in : goal.key_in-requires-clause-e_in
key_in-requires-clause-e_in g c =
    let e = ap length c.words.ensures in
    let l = c.order.ensures.ranges.words.0 in
    let s = ap (λ (z : Certificate). z.order) c.cert-cert.ensures.same in
    omega (arith, e, l, s, c.requires.e_in)
