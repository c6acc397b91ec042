use Rattle.std.proofs.Common.{arith}
use Rattle.isomorphisms.proofs.searching.heap_element.Goals as goal

pub returns-clause-few : goal.returns-clause-few
returns-clause-few g c =
    let most =
    c.accepted_certificates_follow.ensures.heaps c.args.a.now c.args.heap
    c.cert.ensures.accepted in
    omega (arith, most, c.element.ensures.value)
