use Rattle.std.proofs.Common.{sym, subst, arith}
use Rattle.misere_theory.specs.Certificates.{claim_of}
use Rattle.isomorphisms.specs.Images.{MustTake}
use Rattle.isomorphisms.proofs.KeyLemmas.{key-must}
use Rattle.isomorphisms.proofs.searching.image.Goals as goal

pub returns-clause-must : goal.returns-clause-must
returns-clause-must g c =
    subst (MustTake (claim_of c.args.a.now) (claim_of c.args.b.now) c.args.images.now c.args.e)
    (sym c.times.ensures.value)
    (key-must c.args.a.now (claim_of c.args.b.now) c.args.images.now c.args.e c.key_at-key.result.0
    c.key_at-key.result.1 c.heap_element-heap.result _ _ c.cert.ensures.accepted (omega arith)
    c.requires.e_in c.key_at-key.ensures.element c.key_at-key.ensures.heap
    c.key_at-key.ensures.smaller c.heap_element-heap.ensures.value
    c.heap_element-heap.ensures.within
    (c.requires.must c.key_at-key.result.0 c.key_at-key.ensures.smaller)
    (c.requires.must c.heap_element-heap.result (omega arith)))
