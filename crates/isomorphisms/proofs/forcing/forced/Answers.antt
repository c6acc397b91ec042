use Rattle.std.proofs.Common.{◌∙◌, ◌<◌, All, refl, sym, ap, subst, arith}
use Rattle.std.proofs.lemmas.List.Elements.{All-push}
use Rattle.misere_theory.specs.Certificates.{Certificate, claim_of}
use Rattle.isomorphisms.specs.Images.{IsForced}
use Rattle.isomorphisms.proofs.ImageLemmas.{forced-first, must-identity}
use Rattle.isomorphisms.proofs.forcing.forced.Goals as goal

pub loop-at-init : goal.loop-at-init
loop-at-init g c =
    let a = claim_of c.args.a.now in
    let b = claim_of c.args.b.now in
    let s = ap (λ (z : Certificate). z.order) c.cert.ensures.same in
    let some : 0 < c.args.a.now.order = omega (arith, c.cert.ensures.accepted.in_ranges.order.0) in
    record {
      map =
          forced-first a b c.args.images.now c.in_ok-map.map.items _ some
          (c.in_ok-map.ensures.long ∙ (c.order-order.ensures.value ∙ s))
          (λ k l. c.in_ok-map.ensures.nothing k (omega (arith, l, s, c.order-order.ensures.value)))
          refl;
      found =
          subst (All (IsForced a b c.args.images.now)) (sym c.in_ok-push.ensures.items)
          (All-push (IsForced a b c.args.images.now) c.new-found.result.items _
          (subst (All (IsForced a b c.args.images.now)) (sym c.new-found.ensures.items)
          (λ k d l. absurd (omega (arith, l))))
          (record {
            from = some;
            to = omega (arith, c.cert-2.ensures.accepted.in_ranges.order.0);
            must = must-identity a b c.args.images.now;
          }));
    }

pub spread_all-requires-clause-x : goal.spread_all-requires-clause-x
spread_all-requires-clause-x g c =
    subst (IsForced (claim_of c.args.a.now) (claim_of c.args.b.now) c.args.images.now)
    (sym c.index-x.ensures)
    (c.loop-at.invariant.found c.loop-at.at c.index-x.result.now
    (omega (arith, c.if-at-len.false, c.len.ensures)))
