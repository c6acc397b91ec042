use Rattle.std.proofs.Common.{◌<◌, ℕ, List, All, length, sym, ap, subst, arith}
use Rattle.std.specs.Prelude.{slice_index}
use Rattle.std.proofs.lemmas.List.{length_push}
use Rattle.std.proofs.lemmas.List.Elements.{All-push}
use Rattle.misere_theory.specs.Certificates.{Certificate, claim_of}
use Rattle.isomorphisms.specs.Images.{MustTake}
use Rattle.isomorphisms.proofs.ImageLemmas.{values-pushed}
use Rattle.isomorphisms.proofs.searching.whole_map.Goals as goal

pub image-y-requires-clause-must : goal.image-y-requires-clause-must
image-y-requires-clause-must g c = λ x l.
    subst (λ (xs : List ℕ). MustTake (claim_of c.args.a.now) (claim_of c.args.b.now)
    c.args.images.now x (slice_index xs x)) (sym c.as_slice.ensures.value)
    (c.loop-e.invariant.must x l)

pub loop-e-preserved : goal.loop-e-preserved
loop-e-preserved g c = record {
  long =
      let e = ap length c.in_ok-push.ensures.items in
      let p = length_push c.loop-e.map.items c.image-y.result in
      omega (arith, e, p, c.loop-e.invariant.long);
  within =
      subst (All (λ k. k < c.args.b.now.order)) (sym c.in_ok-push.ensures.items)
      (All-push (λ k. k < c.args.b.now.order) c.loop-e.map.items c.image-y.result
      c.loop-e.invariant.within c.image-y.ensures.within);
  must =
      values-pushed
      (MustTake (claim_of c.args.a.now) (claim_of c.args.b.now) c.args.images.now)
      c.loop-e.map.items c.push.new.self.items c.loop-e.e c.image-y.result c.loop-e.invariant.long
      c.loop-e.invariant.must c.image-y.ensures.must c.in_ok-push.ensures.items;
}

pub returns-clause-must : goal.returns-clause-must
returns-clause-must g c = λ x l.
    let s = ap (λ (z : Certificate). z.order) c.cert.ensures.same in
    c.loop-e.invariant.must x
    (omega (arith, l, s, c.loop-e-test.false, c.order-e-end.ensures.value))
