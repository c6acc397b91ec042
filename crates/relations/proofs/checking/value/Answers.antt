use Rattle.std.proofs.Common.{◌≡◌, ◌<◌, ◌+◌, ◌-◌, ℕ, suc, List, length, get_or, drop, ap, ap₂, sym, ◌∙◌, arith}
use Rattle.monoid_table.specs.Grids.{times_in}
use Rattle.monoid_table.specs.Laws.{power_of}
use Rattle.presentations.specs.Tables.{product_at}
use Rattle.relations.specs.Presented.{vector_of}
use Rattle.relations.proofs.Rewritings.{length-vector}
use Rattle.relations.proofs.Letters.{vector-at, product-drop}
use Rattle.relations.proofs.checking.value.Goals as goal

more : (times : ℕ → ℕ → ℕ) (gs v : List ℕ) (k all p r : ℕ) → k < length gs
    → length v ≡ length gs
    → all ≡ product_at times (drop (length gs - k) gs) (drop (length gs - k) v)
    → p ≡ power_of 0 times (get_or gs (length gs - (k + 1)) 0) (get_or v (length gs - (k + 1)) 0)
    → r ≡ times p all
    → r ≡ product_at times (drop (length gs - (k + 1)) gs) (drop (length gs - (k + 1)) v)
more times gs v k all p r lt long so is e =
    let i = length gs - (k + 1) in
    let next : length gs - k ≡ suc i = omega arith in
    e ∙ ap₂ times is (so ∙ ap (λ j. product_at times (drop j gs) (drop j v)) next)
    ∙ sym (product-drop times gs v i (omega arith) (omega (arith, long)))

pub loop-k-preserved : goal.loop-k-preserved
loop-k-preserved g c =
    let n = length c.args.elements.now in
    let times = times_in c.args.table.now in
    let v = vector_of n c.args.word.now in
    let i = n - (c.loop-k.k + 1) in
    let same : n - 1 - c.loop-k.k ≡ i = omega arith in
    let i_in : i < n = omega arith in
    record {
      value =
          more times c.args.elements.now v c.loop-k.k c.loop-k.all c.power-power.result
          c.times-all.result c.loop-k-test.true (length-vector n c.args.word.now)
          c.loop-k.invariant.value
          (c.power-power.ensures.value
          ∙ ap
          (λ j. power_of 0 times (get_or c.args.elements.now j 0) (get_or c.args.word.now j 0)) same
          ∙ ap (power_of 0 times (get_or c.args.elements.now i 0))
          (sym (vector-at n c.args.word.now i i_in)))
          c.times-all.ensures.value;
      within = c.times-all.ensures.within;
    }
