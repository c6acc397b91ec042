use Rattle.std.proofs.Common.{All, refl, sym, ◌∙◌, subst, arith, None}
use Rattle.std.proofs.lemmas.List.{get_or_default}
use Rattle.std.proofs.lemmas.List.Elements.{All-push}
use Rattle.misere_theory.specs.Certificates.{claim_of}
use Rattle.isomorphisms.specs.Images.{IsForced, MustTake}
use Rattle.isomorphisms.proofs.ImageLemmas.{forced-set, forced-clash, product-forced, not-equal}
use Rattle.isomorphisms.proofs.forcing.spread.Goals as goal

pub returns-in-Some-clause-clash : goal.returns-in-Some-clause-clash
returns-in-Some-clause-clash g c =
    let a = claim_of c.args.a.now in
    let b = claim_of c.args.b.now in
    let long = c.requires.map.long in
    let must : MustTake a b c.args.images.now c.times-from.result c.times-to.result =
    product-forced a b c.args.images.now c.args.x c.args.y c.times-from.result c.times-to.result
    c.requires.x c.requires.y c.times-from.ensures.value c.times-to.ensures.value in
    λ t.
    forced-clash a b c.args.images.now c.args.map.now.items c.times-from.result c.times-to.result
    c.in-Some.known c.requires.map c.times-from.ensures.within must
    (sym (c.index.ensures
    ∙ get_or_default c.args.map.now.items c.times-from.result c.index.result.now None (omega arith))
    ∙ c.in-Some.is)
    (not-equal c.in-Some.known c.times-to.result t)

pub returns-in_ok-push-in-None-clause-map : goal.returns-in_ok-push-in-None-clause-map
returns-in_ok-push-in-None-clause-map g c =
    let a = claim_of c.args.a.now in
    let b = claim_of c.args.b.now in
    forced-set a b c.args.images.now c.args.map.now.items _ c.times-from.result c.times-to.result
    c.requires.map c.times-from.ensures.within
    (product-forced a b c.args.images.now c.args.x c.args.y c.times-from.result c.times-to.result
    c.requires.x c.requires.y c.times-from.ensures.value c.times-to.ensures.value) refl

pub returns-in_ok-push-in-None-clause-found : goal.returns-in_ok-push-in-None-clause-found
returns-in_ok-push-in-None-clause-found g c =
    let a = claim_of c.args.a.now in
    let b = claim_of c.args.b.now in
    subst (All (IsForced a b c.args.images.now)) (sym c.in_ok-push-in-None.ensures.items)
    (All-push (IsForced a b c.args.images.now) c.args.found.now.items _ c.requires.found
    (record {
      from = c.times-from.ensures.within;
      to = c.times-to.ensures.within;
      must =
          product-forced a b c.args.images.now c.args.x c.args.y c.times-from.result c.times-to.result
          c.requires.x c.requires.y c.times-from.ensures.value c.times-to.ensures.value;
    }))
