use Rattle.std.proofs.Common.{◌+◌, ◌<◌, ℕ, sym, subst, arith}
use Rattle.descriptions.specs.Invariants.{Divides}
use Rattle.descriptions.proofs.Tables.{divides-next}
use Rattle.descriptions.proofs.invariants.lowest.Goals as goal

pub loop-x-preserved : goal.loop-x-preserved
loop-x-preserved c =
    let t = c.args.table.now in
    let x = c.loop-x.x in
    let x_in : x < t.order = omega (arith, c.loop-x-test.true, c.order-x-end.ensures.value) in
    record {
      within = c.times-all.ensures.within;
      each =
          subst (λ v. (y : ℕ) → y < x + 1 → Divides t y v) (sym c.times-all.ensures.value)
          (divides-next t c.order-x-end.ensures.monoid c.loop-x.all x c.loop-x.invariant.within x_in
          c.loop-x.invariant.each);
    }
