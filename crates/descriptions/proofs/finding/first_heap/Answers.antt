use Rattle.std.proofs.Common.{◌≡◌, ◌∙◌, ap, arith}
use Rattle.descriptions.proofs.Heaps.{heap-of}
use Rattle.descriptions.proofs.finding.first_heap.Goals as goal

pub returns : goal.returns
returns c = λ has.
    let C = c.args.certified.now in
    let same = c.cert-cert.ensures.same in
    let start : c.start.result ≡ C.start = c.start.ensures.value ∙ ap (λ x. x.start) same in
    let period : c.period.result ≡ C.period = c.period.ensures.value ∙ ap (λ x. x.period) same in
    let (heap, some, low, is) =
    heap-of C c.args.element c.cert-cert.ensures.accepted.in_ranges.phi.0 has
    in
    c.loop-heap.invariant heap some
    (omega (arith, low, start, period, c.loop-heap-test.false)) is
