use Rattle.std.proofs.Common.{◌≡◌, take}
use Rattle.monoid_table.specs.Laws.{product_of}
use Rattle.monoid_table.proofs.monoid.product.Given as goal

abbrev pub invariant-loop-x : goal.invariant-loop-x
invariant-loop-x g l = record {
  value : l.all ≡ product_of (g.M.CommMonoid.identity l.monoid) (g.M.CommMonoid.multiply l.monoid)
      (take l.x-index l.elements);
  inside : g.M.CommMonoid.is_in l.monoid l.all;
}
