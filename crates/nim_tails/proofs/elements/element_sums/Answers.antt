use Rattle.std.proofs.Common.{◌+◌, ◌∙◌, sym, ap, subst}
use Rattle.std.specs.Prelude.{slice_index}
use Rattle.nim_tails.specs.Normal.{nim_sum}
use Rattle.nim_tails.proofs.TailSums.{AreSumsBelow, one_sum_more}
use Rattle.nim_tails.proofs.elements.element_sums.Goals as goal

pub loop-x-preserved : goal.loop-x-preserved
loop-x-preserved c =
    let d = c.args.certified.now in
    let values = c.args.values.now in
    let x = c.loop-x.x in
    subst (λ s. AreSumsBelow d values s (x + 1)) (sym c.in_ok-push-2.ensures.items)
    (one_sum_more d values c.loop-x.sums.items x c.loop-x.invariant c.in_ok-position.position
    c.in_ok-position.ensures.position c.in_ok-position.ensures.value c.nim_sum.result
    (sym (c.nim_sum.ensures.value ∙ ap (nim_sum (slice_index values)) c.heaps.ensures.value)))
