use Rattle.std.proofs.Common.{◌/◌, ◌∙◌, subst, sym}
use Rattle.monoid_table.proofs.Products.{IsLeft, left_first, left_even, left_odd}
use Rattle.monoid_table.proofs.monoid.power.Goals as goal
use Rattle.monoid_table.proofs.monoid.power.Goals.{then-left-eq1, else-left-eq1}

pub loop-left-init : goal.loop-left-init
loop-left-init g c =
    let m = c.args.monoid.now in
    left_first (g.M.CommMonoid.is_in m) _ _ (g.met.M.CommMonoid.laws m c.one-all.ensures.lawful) _
    c.args.count _ _ c.requires c.one-all.ensures.value c.times-square.ensures

pub loop-left-preserved : goal.loop-left-preserved
loop-left-preserved g c =
    let m = c.args.monoid.now in
    let laws = g.met.M.CommMonoid.laws m c.one-all.ensures.lawful in
    elim c.if-left-eq1.branch [
      | then-left-eq1 w ↦
          left_odd (g.M.CommMonoid.is_in m) _ _ laws _ c.args.count c.loop-left.all
          c.if-left-eq1.all c.loop-left.square _ c.loop-left.left c.loop-left.invariant
          w.if-left-eq1.true (w.all-is ∙ w.times-all.ensures)
          c.times-square-in-loop-left.ensures
      | else-left-eq1 w ↦
          subst (λ a. IsLeft (g.M.CommMonoid.is_in m) (g.M.CommMonoid.identity m)
          (g.M.CommMonoid.multiply m) c.args.x.now c.args.count a
          c.times-square-in-loop-left.result (c.loop-left.left / 2)) (sym w.all-is)
          (left_even (g.M.CommMonoid.is_in m) _ _ laws _ c.args.count c.loop-left.all
          c.loop-left.square _ c.loop-left.left c.loop-left.invariant w.if-left-eq1.false
          c.times-square-in-loop-left.ensures)
    ]
