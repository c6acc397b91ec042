use Rattle.std.proofs.Common.{◌≢◌, sym, ◌∙◌, arith}
use Rattle.std.proofs.lemmas.List.{get_or-set_other}
use Rattle.presentations.specs.Congruences.Related.{Same, Chained}
use Rattle.presentations.proofs.BoxLaws.{length-vector}
use Rattle.presentations.proofs.Merges.{shrinks-trans, shrinks-same, shrinks-pointed}
use Rattle.presentations.proofs.classes.first_of.Goals as goal

pub loop-parent-init : goal.loop-parent-init
loop-parent-init g c = record {
  within = c.requires;
  down = c.parent-parent.ensures.down;
  here = c.parent-parent.ensures.value;
  on = c.parent-parent.ensures.related;
  related = Same _ (length-vector c.args.merging.now.axes c.args.from);
  stay = λ u e. e;
  kept = shrinks-same c.args.merging.now;
}

pub point-requires-clause-related : goal.point-requires-clause-related
point-requires-clause-related g c =
    let kept = c.loop-parent.invariant.kept in
    Chained _ _ _ (rw (← kept.axes, ← kept.relations) at c.loop-parent.invariant.on)
    c.parent-above.ensures.related

pub loop-parent-preserved : goal.loop-parent-preserved
loop-parent-preserved g c =
    let old = c.loop-parent.invariant in
    let kept = old.kept in
    let parents = c.loop-parent.merging.parents in
    record {
      within = omega (arith, old.within, old.down);
      down = c.parent-above.ensures.down;
      here = c.parent-above.ensures.value ∙ rw c.point.ensures.parents
          (sym (get_or-set_other parents c.loop-parent.at c.loop-parent.parent
          c.parent-above.result 0 c.loop-parent-test.true));
      on = rw (kept.axes, kept.relations) at c.parent-above.ensures.related;
      related = Chained _ _ _ old.related old.on;
      stay = λ u e.
          let first = old.stay u e in
          let other : u ≢ c.loop-parent.at =
          λ same. c.loop-parent-test.true (old.here ∙ rw same at first) in
          rw c.point.ensures.parents
          (get_or-set_other parents c.loop-parent.at u c.parent-above.result 0 other ∙ first);
      kept = shrinks-trans kept (shrinks-pointed c.point.ensures
          (omega (arith, c.parent-above.ensures.down, old.here)));
    }
