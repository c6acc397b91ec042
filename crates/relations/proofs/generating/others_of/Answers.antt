use Rattle.relations.proofs.Among.{among-more, below-more}
use Rattle.relations.proofs.generating.others_of.Goals as goal
use Rattle.relations.proofs.generating.others_of.Goals.{then-i-skip+in_ok-push, else-i-skip}

pub loop-i-preserved : goal.loop-i-preserved
loop-i-preserved g c =
    elim c.if-i-skip.branch [
      | then-i-skip+in_ok-push w ↦
          rw (w.others-is, w.in_ok-push.ensures.items) (record {
            below =
                below-more c.args.bound c.args.elements.now c.loop-i.others.items
                c.loop-i.i _ c.loop-i-test.true c.requires c.loop-i.invariant.below;
            among =
                among-more c.args.elements.now c.loop-i.others.items c.loop-i.i _
                c.loop-i-test.true c.loop-i.invariant.among;
          })
      | else-i-skip w ↦ rw w.others-is c.loop-i.invariant
    ]
