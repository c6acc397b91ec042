use Rattle.std.proofs.Common.{◌≡◌, ◌+◌, ◌∙◌, sym, ap, subst, take}
use Rattle.std.proofs.lemmas.List.{take_all}
use Rattle.std.proofs.lemmas.List.Elements.{recursion_from_All}
use Rattle.monoid_table.specs.Laws.{product_of}
use Rattle.monoid_table.proofs.Products.{product-permutation, product-take_in, product-take_more}
use Rattle.monoid_table.proofs.monoid.product.Goals as goal

pub returns-clause-any_order : goal.returns-clause-any_order
returns-clause-any_order g c = λ others p.
    let m = c.args.monoid.now in
    let whole = take_all c.loop-x.x-index c.args.elements.now c.loop-x-test.false in
    c.loop-x.invariant.value
    ∙ ap (product_of (g.M.CommMonoid.identity m) (g.M.CommMonoid.multiply m)) whole
    ∙ sym (product-permutation _ _ _ (g.met.M.CommMonoid.laws m c.one-all.ensures.lawful)
    c.args.elements.now others p
    (recursion_from_All (g.M.CommMonoid.is_in m) c.args.elements.now c.requires))

pub loop-x-preserved : goal.loop-x-preserved
loop-x-preserved g c =
    let m = c.args.monoid.now in
    let value : c.times-all.result ≡ product_of (g.M.CommMonoid.identity m)
    (g.M.CommMonoid.multiply m) (take (c.loop-x.x-index + 1) c.args.elements.now) =
    c.times-all.ensures ∙ ap (λ v. g.M.CommMonoid.multiply m v c.x-item.result)
    c.loop-x.invariant.value
    ∙ product-take_more _ _ _ (g.met.M.CommMonoid.laws m c.one-all.ensures.lawful)
    c.args.elements.now c.loop-x.x-index c.x-item.result c.requires c.loop-x-test.true
    c.x-item.is in
    record {
      value = value;
      inside =
          subst (g.M.CommMonoid.is_in m) (sym value)
          (product-take_in _ _ _ (g.met.M.CommMonoid.laws m c.one-all.ensures.lawful)
          c.args.elements.now (c.loop-x.x-index + 1) c.requires);
    }
