use Rattle.std.proofs.Common.{◌<◌, below_more, arith}
use Rattle.std.proofs.lemmas.Grind.{common_steps}
use Rattle.monoid_table.specs.Grids.{entry}
use Rattle.monoid_table.specs.Light.{AssociatesAt, IsGenerator}
use Rattle.monoid_table.proofs.light.generators_associate.Goals as goal
use Rattle.monoid_table.proofs.light.generators_associate.Goals.{else-not-composite-y-via-then-not-composite-y+else-not-associates_at, else-not-composite-y-via-else-not-composite-y}

pub loop-y-preserved : goal.loop-y-preserved
loop-y-preserved c =
    let times = entry c.args.order c.args.rows.now in
    let here : 0 < c.loop-y.y → IsGenerator times c.loop-y.y
    → AssociatesAt c.args.order times c.loop-y.y = λ positive generator.
    elim c.else-not-composite-y.branch [
      | else-not-composite-y-via-then-not-composite-y+else-not-associates_at w ↦
          w.associates_at.ensures.0 w.if-not-associates_at.false
      | else-not-composite-y-via-else-not-composite-y w ↦ absurd
          (generator (c.composites-composite.ensures c.loop-y.y w.if-not-composite-y.false))
    ] in
    below_more (λ k. 0 < k → IsGenerator times k → AssociatesAt c.args.order times k) c.loop-y.y
    c.loop-y.invariant here

pub returns-clause-enough : goal.returns-clause-enough
returns-clause-enough c = grind (arith, common_steps)
