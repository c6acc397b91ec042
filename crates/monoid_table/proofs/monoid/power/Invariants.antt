use Rattle.monoid_table.proofs.Products.{IsLeft}
use Rattle.monoid_table.proofs.monoid.power.Given as goal

abbrev pub invariant-loop-left : goal.invariant-loop-left
invariant-loop-left g l =
    let m = l.monoid in
    IsLeft (g.M.CommMonoid.is_in m) (g.M.CommMonoid.identity m) (g.M.CommMonoid.multiply m) l.x
    l.count l.all l.square l.left

abbrev pub decreases-loop-left : goal.decreases-loop-left
decreases-loop-left g l = l.left
