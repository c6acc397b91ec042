use Rattle.relations.proofs.Among.{among-more, below-more}
use Rattle.relations.proofs.generating.new_ones.Goals as goal
use Rattle.relations.proofs.generating.new_ones.Goals.{then-not-index+in_ok-push, else-not-index}

pub loop-e-preserved : goal.loop-e-preserved
loop-e-preserved g c =
    elim c.if-not-index.branch [
      | then-not-index+in_ok-push w ↦
          rw (w.kept-is, w.in_ok-push.ensures.items) (record {
            below =
                below-more c.args.table.now.order c.args.elements.now c.loop-e.kept.items
                c.loop-e.e-index _ c.loop-e-test.true c.requires c.loop-e.invariant.below;
            among =
                among-more c.args.elements.now c.loop-e.kept.items c.loop-e.e-index _
                c.loop-e-test.true c.loop-e.invariant.among;
          })
      | else-not-index w ↦ rw w.kept-is c.loop-e.invariant
    ]
