use Rattle.std.proofs.Common.{◌≡◌, ◌∙◌, true, false, refl, sym, ap, subst, arith}
use Rattle.misere_theory.specs.Certificates.{Certificate, claim_of}
use Rattle.isomorphisms.specs.Maps.{AreHit}
use Rattle.isomorphisms.proofs.MapLemmas.{map-from, map-hits, map-new}
use Rattle.isomorphisms.proofs.checking.is_map.Goals as goal

pub returns-then-not-are_hit : goal.returns-then-not-are_hit
returns-then-not-are_hit g c = (
  λ t. let no : false ≡ true = t in absurd (cc),
  λ m.
      c.if-not-are_hit.ensures.1
      (subst (AreHit c.args.map.now)
      (sym (c.order-order.ensures.value ∙ ap (λ (z : Certificate). z.order) c.cert.ensures.same))
      (map-hits (claim_of c.args.a.now) (claim_of c.args.b.now) c.args.map.now m)),
)

pub returns : goal.returns
returns g c =
    let a = claim_of c.args.a.now in
    let b = claim_of c.args.b.now in (
      λ t.
          map-from a b c.args.map.now c.requires.long
          (λ x l. c.requires.within x 0 (omega (arith, l, c.requires.long)))
          c.if-map-ne0.false (c.if-not-keeps_portion.ensures.0 refl)
          (c.if-not-keeps_products.ensures.0 refl)
          (subst (AreHit c.args.map.now)
          (c.order-order.ensures.value ∙ ap (λ (z : Certificate). z.order) c.cert.ensures.same)
          (c.if-not-are_hit.ensures.0 refl))
          (c.are_new.ensures.0 t),
      λ m. c.are_new.ensures.1 (map-new a b c.args.map.now m),
    )
