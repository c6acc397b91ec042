use Rattle.std.proofs.Common.{◌<◌, ap, ◌∙◌, arith, length, get_or}
use Rattle.presentations.specs.Boxes.{size_of}
use Rattle.presentations.specs.Congruences.Related.{Chained}
use Rattle.presentations.proofs.Merges.{flat-more, shrinks-trans, shrinks-pointed}
use Rattle.presentations.proofs.classes.flatten.Goals as goal

pub point-requires-clause-related : goal.point-requires-clause-related
point-requires-clause-related g c =
    Chained _ _ _ c.parent-parent.ensures.related c.parent-above.ensures.related

pub loop-i-preserved : goal.loop-i-preserved
loop-i-preserved g c =
    let parents = c.loop-i.merging.parents in
    let kept = c.loop-i.invariant.kept in
    let is = c.is_box.ensures.merging in
    let lt : c.loop-i.i < length parents = omega (arith, ap size_of kept.axes, is.length_is) in
    let parent = c.parent-parent.ensures.value in
    record {
      kept = shrinks-trans kept
          (shrinks-pointed c.point.ensures (omega (arith, c.parent-above.ensures.down, parent)));
      firsts =
          rw c.point.ensures.parents
          (flat-more parents c.loop-i.i c.parent-above.result lt
          (λ w b. is.down w (omega (arith, is.length_is)))
          (c.parent-above.ensures.value ∙ ap (λ p. get_or parents p 0) parent)
          c.loop-i.invariant.firsts);
    }
